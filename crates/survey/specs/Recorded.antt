-- "For books so accepted, a user may read 'no trees estimated' as 'no measured or small trees recorded'." (Document 02, Q-4.) What a book records is told by its
-- commands alone: no survey and no step stands in it. Totalling promises it of every book and every lent sheet, beside demand 3, which keeps its own words.
use Rattle.std.specs.Prelude.{ℕ, ◌+◌, ◌*◌, ◌≤◌, ◌≡◌, List, [], ◌∷◌}
use Rattle.codec.specs.declared.command.Command.{Command}
use Rattle.survey.specs.Reader.{reach}
use Rattle.survey.specs.Total.{Answer, refused_at, totalled}
use Rattle.survey.specs.declared.total.Totals.{Totals}

-- ---- "measured or small trees recorded"

-- "04 measured trees: class .., count"; "Command 08 .. gives .. a count": how many trees a command records. Other commands record none: a height tree is measured
-- for the tariff, and is not counted
abbrev pub trees_in : Command → ℕ
trees_in (Command.Species id species) = 0
trees_in (Command.Factor cm factor) = 0
trees_in (Command.Open stratum species p q) = 0
trees_in (Command.Measured class count) = count
trees_in (Command.Height cm tenths) = 0
trees_in Command.Close = 0
trees_in Command.End = 0
trees_in (Command.Small carbon count) = count

-- their counts added
unfoldable pub recorded_by : List Command → ℕ
recorded_by [] = 0
recorded_by (c ∷ cs) = trees_in c + recorded_by cs

-- so of the commands that a book reads as
unfoldable pub recorded : List ℕ → ℕ
recorded book = recorded_by (reach book 0).commands

-- ---- what may be read from the answer

-- from what comes back of an accepted book
pub record TreesRecorded (book : List ℕ) (t : Totals) : Type 0 where
  -- "no trees estimated" may be read as "no measured or small trees recorded"
  pub only_when : t.trees ≡ 0 → recorded book ≡ 0
  pub when_none : recorded book ≡ 0 → t.trees ≡ 0
  -- "The two project figures now coincide only where neither measured nor small trees are estimated" (document 02, Q-1): so exactly where none are recorded
  pub equal_only_when : t.carbon.low.0 ≡ t.carbon.high.0 → recorded book ≡ 0
  pub equal_when : recorded book ≡ 0 → t.carbon.low.0 ≡ t.carbon.high.0
  -- none is lost: the trees that come back, in hundredths, are at least those recorded
  pub none_lost : 100 * recorded book ≤ t.trees

-- A refused book has no figures
abbrev pub AsRecorded : List ℕ → Answer → Type 0
AsRecorded book (refused_at n at) = Unit
AsRecorded book (totalled t) = TreesRecorded book t
