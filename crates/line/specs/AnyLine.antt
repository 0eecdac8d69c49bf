-- What the code does of any line at all, also of one that no book reaches: the papers' text, and besides a check wherever a number could otherwise be
-- outside what the next figure is worked from. No promise about a whole book is stated over this (survey/specs/Apply.antt).
use Rattle.std.specs.Prelude.{ℕ, ◌+◌, ◌*◌, cond, List, Option, leb, eqb}
use Rattle.biomass.specs.Whole.{inside}
use Rattle.biomass.specs.Report.{Report, gives, given, unless, ◌then◌, when}
use Rattle.biomass.specs.Limits.{most_measured, most_heights, most_estimated}
use Rattle.biomass.specs.Tariff.{line_tariff}
use Rattle.biomass.specs.Mean.{mean}
use Rattle.biomass.specs.Trees.{trees}
use Rattle.biomass.specs.Ends.{between}
use Rattle.biomass.specs.Tree.{row_biomass}
use Rattle.biomass.specs.SmallTrees.{small_trees}
use Rattle.biomass.specs.Units.{BiomassRange}
use Rattle.line.specs.Line.{with_trees, with_height, tariff_of, factor_for, tree_with, gaining, row_with}
use Rattle.line.specs.declared.row.Row.{Row}
use Rattle.line.specs.declared.line.Line.{Line}

-- what S and the tariffs added come to at most: of the most trees, each of 100 cm, and of the most height trees, each of tariff 50
abbrev pub most_squares : ℕ
most_squares = 10000 * most_measured

abbrev pub most_tariffs : ℕ
most_tariffs = 50 * most_heights

-- measured trees; the last check declines a line whose S is above that
unfoldable pub add_trees : ℕ → ℕ → Line → Report Line
add_trees class count l =
    unless (inside 7 class 100) 6
    (unless (leb 1 count) 6
    (unless (leb (l.tally.n + count) most_measured) 11
    (unless (leb l.tally.squares most_squares) 6
    (gives (with_trees class count l)))))

-- a height tree; the last check declines a line whose tariffs come to more
unfoldable pub add_height : ℕ → ℕ → Line → Report Line
add_height cm tenths l =
    tariff_of l.species cm tenths then λ T.
    when (leb most_heights l.heights.number) 11
    (unless (leb l.heights.tariffs most_tariffs) 6
    (gives (with_height T l)))

-- step 3 with its refusal at closing: "15 N over 100,000,000", "either number above 100,000,000 at closing is 15" (document 02, Q-1). What it declines (6),
-- closing declines
abbrev pub scaled : ℕ → ℕ → ℕ → Report ℕ
scaled n p q =
    trees n p q then λ N.
    unless (leb N most_estimated) 15
    (gives N)

-- the row of a line from its T, d and N, the biomass m of its measured trees and the number of its small ones, whose carbon is looked at where there are any
unfoldable pub row_gaining : Line → ℕ → ℕ → ℕ → BiomassRange → ℕ → Report Row
row_gaining l T d N m number =
    cond (eqb number 0) (gives (row_with l T d N m))
    (small_trees number l.small.carbon then λ small.
    gives (row_with l T d N (gaining m small)))

-- from its T, d, f and both numbers, by steps 4 to 7: m is the biomass of its measured trees. What these steps decline (6), closing declines
unfoldable pub worked : Line → ℕ → ℕ → ℕ → ℕ → ℕ → Report Row
worked l T d f N number = row_biomass N (tree_with l.species T d f) then λ m. row_gaining l T d (N + number) m number

-- closing, where there are measured trees and height trees: d, N and T are worked by steps 2, 3 and 1, and what one of them declines (6), closing declines
abbrev pub some_row : List (Option ℕ) → Line → Report Row
some_row factors l =
    mean l.tally.n l.tally.squares then λ d.
    given (factor_for factors d) 14 then λ f.
    scaled l.tally.n l.p l.q then λ N.
    scaled l.small.count l.p l.q then λ number.
    line_tariff l.heights.tariffs l.heights.number then λ T.
    worked l T d f N number

-- and where there are no measured trees
abbrev pub small_row : Line → Report Row
small_row l = scaled l.small.count l.p l.q then λ number. row_gaining l 0 0 number (between 0 0) number

unfoldable pub line_row : List (Option ℕ) → Line → Report Row
line_row factors l =
    cond (eqb l.tally.n 0) (small_row l)
    (when (eqb l.heights.number 0) 12
    (some_row factors l))
