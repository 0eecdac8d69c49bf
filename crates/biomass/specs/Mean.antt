-- Step 2, the mean diameter d.
use Rattle.std.specs.Prelude.{ℕ, ◌+◌, ◌-◌, ◌*◌, ◌≤◌, ◌<◌, Bool, ◌≡◌, leb}
use Rattle.std.proofs.Common.{arith}
use Rattle.biomass.specs.Whole.{inside, square}
use Rattle.powers.specs.Greatest.{greatest}
use Rattle.biomass.specs.Report.{Report, gives, unless}
use Rattle.powers.specs.Diameter.{least_d, greatest_d}
use Rattle.biomass.specs.Limits.{most_measured}

-- "40000·S": S is in square cm, and 40000 squares of half a unit of d make one
abbrev pub square_scale : ℕ
square_scale = 40000

-- "Mean d: the whole d with" "(2d−1)²·n ≤ 40000·S < (2d+1)²·n" (document 01, step 2; document 02, Q-5)
-- `not_cut_off` says that 2d − 1 is not cut off at 0 here
pub record IsMean (n S d : ℕ) : Type 0 where
  pub not_cut_off : 1 ≤ 2 * d
  pub not_above : square (2 * d - 1) * n ≤ square_scale * S
  pub below : square_scale * S < square (2 * d + 1) * n

-- 2d − 1 is not cut off at any d from 1 on
pub odd_is_whole : (d : ℕ) → 1 ≤ d → 2 * d - 1 + 1 ≡ 2 * d
odd_is_whole d h = omega arith

-- The greatest d with the first of the two inequalities. `greatest` tests numbers from 1 on (`odd_is_whole`). Law.Mean shows that
-- this is the d of step 2, and the only one
unfoldable pub mean_of : ℕ → ℕ → ℕ
mean_of n S = greatest (λ d. leb (square (2 * d - 1) * n) (square_scale * S)) greatest_d

-- d's "range 700 to 10000"
abbrev pub d_in_range : ℕ → Bool
d_in_range d = inside least_d d greatest_d

-- "n 1 to 1,000,000; S 49n to 10000n"
unfoldable pub mean : ℕ → ℕ → Report ℕ
mean n S =
    unless (inside 1 n most_measured) 6
    (unless (inside (49 * n) S (10000 * n)) 6
    (gives (mean_of n S)))
