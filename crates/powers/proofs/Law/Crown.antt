-- w is what passes the test by rounded powers (Law.Scaled), and the table has it at every diameter of the curve.
use Rattle.std.specs.Prelude.{◌≡◌, Bool, true, ℕ, ◌≤◌, ◌<◌}
use Rattle.std.proofs.Common.{◌∙◌, lit<, le-leb}
use Rattle.std.proofs.lemmas.Bool.{lt-leb}
use Rattle.powers.specs.Diameter.{least_d, crown_limit}
use Rattle.powers.specs.Crown.{crown_exponent, crown_degree, crown_shift, w, tabled}
use Rattle.powers.proofs.Law.Scaled.{near, tested, whole_root_tested}

-- The bounds of 10 ^ crown_shift are arguments, so that they are computed once for a list
abbrev pub tested_w : ℕ → ℕ → Bool
tested_w = tested 15 crown_degree crown_exponent (near 15 0 10 crown_shift) (near 15 1 10 crown_shift)

pub w_is : (d x : ℕ) → tested_w d x ≡ true → w d ≡ x
unfolding w
w_is = whole_root_tested 15 crown_degree crown_shift crown_exponent (lit< tt) (lit< tt) (lit< tt) (lit< tt)

-- the table on the curve, below it and above it
pub tabled_is_w : {x d : ℕ} → x ≡ tabled d → least_d ≤ d → d ≤ crown_limit → x ≡ w d
tabled_is_w {d} is low high = is ∙ rw (le-leb least_d d low, le-leb d crown_limit high)

pub below_curve : {d : ℕ} → d < least_d → 0 ≡ tabled d
below_curve {d} h = rw (lt-leb least_d d h)

pub above_curve : {d : ℕ} → least_d ≤ d → crown_limit < d → 0 ≡ tabled d
above_curve {d} low h = rw (le-leb least_d d low, lt-leb d crown_limit h)
