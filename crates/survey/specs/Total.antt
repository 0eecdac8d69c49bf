-- "Totalling a book into a sheet": the answer, and every byte of the sheet afterwards.
use Rattle.std.specs.Prelude.{ℕ, ◌+◌, Bool, cond, List, [], ◌∷◌, length, ltb, Result, Ok, Err}
use Rattle.biomass.specs.Ends.{between}
use Rattle.biomass.specs.Project.{project_of}
use Rattle.biomass.specs.Units.{BiomassRange}
use Rattle.codec.specs.Refusal.{number}
use Rattle.codec.specs.Bytes.{stored_at}
use Rattle.survey.specs.AsWritten.{as_written}
use Rattle.survey.specs.Playing.{Played, ended, stopped, play_by}
use Rattle.survey.specs.Survey.{rows_of}
use Rattle.survey.specs.Sheet.{sheet_length, sheet_bytes}
use Rattle.line.specs.declared.row.Row.{Row}
use Rattle.survey.specs.declared.total.Totals.{Totals}
use Rattle.survey.specs.declared.playing.Stopped.{Stopped}

-- ---- what comes back

-- the number of the refusal and its place, or the totals
pub data Answer : Type 0 where
  refused_at : ℕ → ℕ → Answer
  totalled : Totals → Answer

-- what the code answers
abbrev pub answer : Result Totals Stopped → Answer
answer (Ok t) = totalled t
answer (Err h) = refused_at (number h.why) h.at

-- ---- the totals

-- "the N of all lines added", the "sum of row lows" and the "sum of row highs"
unfoldable pub sum_of : (Row → ℕ) → List Row → ℕ
sum_of figure [] = 0
sum_of figure (r ∷ rs) = figure r + sum_of figure rs

abbrev pub row_trees : Row → ℕ
row_trees r = r.trees

abbrev pub low_of : Row → ℕ
low_of r = r.biomass.low.0

abbrev pub high_of : Row → ℕ
high_of r = r.biomass.high.0

abbrev pub sums : List Row → BiomassRange
sums rows = between (sum_of low_of rows) (sum_of high_of rows)

-- "the number of rows, the N of all lines added and the two project figures come back"
unfoldable pub total_of : List Row → Totals
total_of rows =
    record {
      rows = length rows;
      trees = sum_of row_trees rows;
      carbon = project_of (sums rows) (sum_of row_trees rows);
    }

-- ---- totalling

-- "16 sheet under 800 bytes, place 0"
abbrev pub short : List ℕ → Bool
short sheet = ltb (length sheet) sheet_length

-- "then the first refusal met, with the place of its command."
abbrev pub answer_of : Played → Answer
answer_of (stopped n at) = refused_at n at
answer_of (ended s) = totalled (total_of (rows_of s))

-- the answer to a book that was played so, with that sheet
abbrev pub answer_into : List ℕ → Played → Answer
answer_into sheet p = cond (short sheet) (refused_at 16 0) (answer_of p)

-- the book is played by the papers' text
unfoldable pub total : List ℕ → List ℕ → Answer
total book sheet = answer_into sheet (play_by as_written book)

-- "The sheet keeps every byte. On acceptance .. the rows stand from byte 0 on, and only the rows' bytes change."
abbrev pub stored_by : List ℕ → Played → List ℕ
stored_by sheet (stopped n at) = sheet
stored_by sheet (ended s) = stored_at sheet 0 (sheet_bytes (rows_of s))

-- that sheet after a book that was played so
abbrev pub stored_into : List ℕ → Played → List ℕ
stored_into sheet p = cond (short sheet) sheet (stored_by sheet p)

unfoldable pub sheet_after : List ℕ → List ℕ → List ℕ
sheet_after book sheet = stored_into sheet (play_by as_written book)
