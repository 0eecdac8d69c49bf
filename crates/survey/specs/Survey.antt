-- "Applying a command to a survey", refusal by refusal, in the order of documents 01 and 02 and with no refusal but those that they name. The code has checks besides
-- (Apply), which decline only surveys that no book reaches.
use Rattle.std.specs.Prelude.{ℕ, ◌+◌, Bool, true, false, cond, List, get_or, set, take, replicate, Option, None, Some, is_some, unwrap_or, leb, eqb}
use Rattle.biomass.specs.Whole.{inside}
use Rattle.biomass.specs.Report.{Report, gives, unless, ◌then◌, when, given}
use Rattle.biomass.specs.Limits.{most_measured, most_heights, most_estimated}
use Rattle.biomass.specs.Ends.{between}
use Rattle.biomass.specs.declared.tree.AverageTree.{AverageTree}
use Rattle.rules.specs.Checks.{most_lines, declaring, giving, any_line, opening, ending}
use Rattle.line.specs.Line.{new_line, with_trees, with_height, tariff_of, add_small, T_of, d_of, N_of, small_number_of, factor_at, factor_for, tree_with, MeasuredPart, Estimate, small_part, no_measured, estimated_row}
use Rattle.codec.specs.declared.command.Species.{Species}
use Rattle.line.specs.declared.row.Row.{Row}
use Rattle.line.specs.declared.line.Line.{Line}
use Rattle.survey.specs.declared.survey.Survey.{Survey}

-- ---- the survey

-- what stands where no line has closed yet
abbrev pub no_row : Row
no_row = record { stratum = 0; species = 0; tariff = 0; d = 0; trees = 0; biomass = between 0 0 }

-- the survey before the first command
unfoldable pub fresh : Survey
fresh =
    record {
      species = replicate 16 None;
      factors = replicate 101 None;
      rows = replicate most_lines no_row;
      closed = 0;
      line = None;
      ended = false;
    }

-- what a species was declared with, where it was
abbrev pub species_at : Survey → ℕ → Option Species
species_at s id = get_or s.species id None

-- the rows of the closed lines, "in closing order"
abbrev pub rows_of : Survey → List Row
rows_of s = take s.closed s.rows

-- The same survey with something changed: its tables; its line and whether the book has ended; its rows
abbrev pub with_tables : Survey → List (Option Species) → List (Option ℕ) → Survey
with_tables s species factors = record { species = species; factors = factors; rows = s.rows; closed = s.closed; line = s.line; ended = s.ended }

abbrev pub with_state : Survey → Option Line → Bool → Survey
with_state s line ended = record { species = s.species; factors = s.factors; rows = s.rows; closed = s.closed; line = line; ended = ended }

abbrev pub with_rows : Survey → List Row → ℕ → Survey
with_rows s rows closed = record { species = s.species; factors = s.factors; rows = rows; closed = closed; line = s.line; ended = s.ended }

-- a species and a factor given
abbrev pub with_species : Survey → ℕ → Species → Survey
with_species s id species = with_tables s (set s.species id (Some species)) s.factors

abbrev pub with_factor : Survey → ℕ → ℕ → Survey
with_factor s cm factor = with_tables s s.species (set s.factors cm (Some factor))

-- a line opened or noted on; closed with a row more; the book ended
abbrev pub with_line : Survey → Line → Survey
with_line s l = with_state s (Some l) s.ended

abbrev pub with_row : Survey → Row → Survey
with_row s r = with_rows (with_state s None s.ended) (set s.rows s.closed r) (s.closed + 1)

abbrev pub with_end : Survey → Survey
with_end s = with_state s s.line true

-- ---- the commands. "5 the book has ended, first of all." What else a declaration, an opening and the end decline is Checks

-- "8 species undeclared, an id above 15 included": what a species is declared with, and whether it is declared
abbrev pub declared_with : ℕ → Survey → Option Species
declared_with id s = cond (inside 0 id 15) (species_at s id) None

abbrev pub declared : ℕ → Survey → Bool
declared id s = is_some (declared_with id s)

-- "Species and factor: 6 ..; 7 already given."
unfoldable pub declare : ℕ → Species → Survey → Report Survey
declare id species s =
    when s.ended 5
    (declaring id species (declared id s)
    (gives (with_species s id species)))

unfoldable pub give_factor : ℕ → ℕ → Survey → Report Survey
give_factor cm factor s =
    when s.ended 5
    (giving cm factor (is_some (factor_at s.factors cm))
    (gives (with_factor s cm factor)))

-- "same stratum and species already opened"
unfoldable pub opened : ℕ → ℕ → Survey → Bool
opened stratum id s = any_line stratum id (rows_of s)

-- "Opening: 6; 9 ..; 8 ..; 7 ..; 11 .." "17: q above p, after 6 and before 9" (document 02, Q-4)
unfoldable pub open_line : ℕ → ℕ → ℕ → ℕ → Survey → Report Survey
open_line stratum id p q s =
    when s.ended 5
    (opening p q (is_some s.line) (declared_with id s) (opened stratum id s) s.closed then λ x.
    gives (with_line s (new_line stratum id x p q)))

-- "04 measured trees: class in cm (1, 7 to 100), count (2, 1 and up)." "1,000,000 measured trees .. a line"
-- "Measured: 10 no line open; 6; 11 over the limit."
unfoldable pub measure : ℕ → ℕ → Survey → Report Survey
measure class count s =
    when s.ended 5
    (given s.line 10 then λ l.
    unless (inside 7 class 100) 6
    (unless (leb 1 count) 6
    (unless (leb (l.tally.n + count) most_measured) 11
    (gives (with_line s (with_trees class count l))))))

-- "05 height tree: cm (1, 10 to 100), height in tenths of a metre (2, 1 to 600)." "1,000 height trees a line"
-- "Height: 10; 6; 13 tariff outside 1 to 50; 11."
unfoldable pub give_height : ℕ → ℕ → Survey → Report Survey
give_height cm tenths s =
    when s.ended 5
    (given s.line 10 then λ l.
    tariff_of l.species cm tenths then λ T.
    when (leb most_heights l.heights.number) 11
    (gives (with_line s (with_height T l))))

-- "08 is checked for 10, then 6, then 7 where the line has one already" (document 02, Q-1); 6 and 7 are line/specs/Line.antt
unfoldable pub give_small : ℕ → ℕ → Survey → Report Survey
give_small carbon count s =
    when s.ended 5
    (given s.line 10 then λ l.
    add_small carbon count l then λ m.
    gives (with_line s m))

-- "The factor is read at d div 100" (document 02, Q-5): that of a line; 0 where none was given, and then no line with measured trees closes
abbrev pub f_of : List (Option ℕ) → Line → ℕ
f_of factors l = unwrap_or (factor_for factors (d_of l)) 0

-- one tree of a line, and as many as steps 1 to 3 give
abbrev pub tree_at : List (Option ℕ) → Line → AverageTree
tree_at factors l = tree_with l.species (T_of l) (d_of l) (f_of factors l)

abbrev pub some_measured : List (Option ℕ) → Line → MeasuredPart
some_measured factors l = record { N = N_of l; tree = tree_at factors l }

unfoldable pub measured_at : List (Option ℕ) → Line → MeasuredPart
measured_at factors l = cond (eqb l.tally.n 0) no_measured (some_measured factors l)

-- "taking T, d, N, f and s of each line": what is estimated of a line, from what is noted of it and the factors given; and of its small trees
unfoldable pub estimate : List (Option ℕ) → Line → Estimate
estimate factors l = record { measured = measured_at factors l; small = small_part l }

-- the row that a line leaves
unfoldable pub closing_row : List (Option ℕ) → Line → Row
closing_row factors l = estimated_row l (estimate factors l)

-- "either number above 100,000,000 at closing is 15, with n = 0 too" (document 02, Q-1): the small number, and then the line is closed. "in closing order"
abbrev pub close_small : Survey → Line → Report Survey
close_small s l =
    unless (leb (small_number_of l) most_estimated) 15
    (gives (with_row s (closing_row s.factors l)))

-- "Closing: 10; then, where n > 0, 12 no height tree; 14 no factor for d div" 100; "15 N over 100,000,000."
unfoldable pub close : Survey → Report Survey
close s =
    when s.ended 5
    (given s.line 10 then λ l.
    cond (eqb l.tally.n 0) (close_small s l)
    (when (eqb l.heights.number 0) 12
    (given (factor_for s.factors (d_of l)) 14 then λ f.
    unless (leb (N_of l) most_estimated) 15
    (close_small s l))))

-- "Ending: 9."
unfoldable pub end : Survey → Report Survey
end s =
    when s.ended 5
    (ending (is_some s.line)
    (gives (with_end s)))
