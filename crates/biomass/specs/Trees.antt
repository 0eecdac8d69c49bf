-- Step 3, the number of trees.
use Rattle.std.specs.Prelude.{ℕ, ◌+◌, ◌*◌, ◌/◌}
use Rattle.biomass.specs.Whole.{inside}
use Rattle.biomass.specs.Report.{Report, gives, unless}
use Rattle.biomass.specs.Limits.{most_measured, greatest_area}

-- "N, estimated trees in hundredths: (200·n·p + q) div (2q)."
abbrev pub trees_of : ℕ → ℕ → ℕ → ℕ
trees_of n p q = (200 * n * p + q) / (2 * q)

-- "1,000,000 measured trees"; "p (4), q (4), both 1 to 100,000,000". The figure by itself takes q above p too; that is checked where a line is opened
-- (document 02, Q-4)
unfoldable pub trees : ℕ → ℕ → ℕ → Report ℕ
trees n p q =
    unless (inside 0 n most_measured) 6
    (unless (inside 1 p greatest_area) 6
    (unless (inside 1 q greatest_area) 6
    (gives (trees_of n p q))))
