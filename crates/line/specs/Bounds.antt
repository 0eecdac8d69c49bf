-- How great the figures of a line can be, and how far apart its ends are. It is proved of each line that closes (Law.Estimate: estimate_bounds), and what holds of every
-- survey that a book reaches is stated by it (survey/specs/Valid.antt).
use Rattle.std.specs.Prelude.{ℕ, ◌+◌, ◌*◌, ◌≤◌, ◌≡◌}
use Rattle.biomass.specs.Limits.{most_estimated}
use Rattle.biomass.specs.Bounds.{greatest_row, greatest_small}
use Rattle.biomass.specs.Units.{BiomassRange}

-- the high of the greatest row of measured trees and of the greatest number of the greatest small tree, in mg; and how many trees there are at most
abbrev pub greatest_line : ℕ
greatest_line = greatest_row + greatest_small

abbrev pub most_of_both : ℕ
most_of_both = most_estimated + most_estimated

-- 54 mg for each tree apart, and 3 mg for the divisions
pub record LineBounds (N : ℕ) (m : BiomassRange) : Type 0 where
  pub ordered : m.low.0 ≤ m.high.0
  pub near : 100 * m.high.0 ≤ 100 * m.low.0 + 54 * N + 300
  pub small : m.high.0 ≤ greatest_line
  pub high_of_none : N ≡ 0 → m.high.0 ≡ 0
