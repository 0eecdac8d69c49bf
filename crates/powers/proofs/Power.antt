-- The table of w: its 4,301 entries pass the test of Law.Crown, so at each diameter of the curve it is w that stands in it.
use mathlib.Core.Path.{◌≡◌, refl, sym}
use mathlib.Core.Bool.{true}
use Prim.Native.Nat.{ℕ, ◌+◌, ◌-◌, ◌≤◌}
use native.Mathlib.Omega.{arith}
use lib.ListN.{get_or, drop}
use Rattle.powers.specs.Diameter.{least_d, crown_limit}
use Rattle.powers.specs.Crown.{w}
use Rattle.powers.specs.declared.crown.TheConstants.{POWER}
use Rattle.powers.proofs.Law.Scaled.{near, tested}
use Rattle.powers.proofs.Law.Crown.{tested_w, w_is}
use Rattle.powers.proofs.Table.{every, at, joined}

-- The test, in four stretches: if antt computed all of it at once, it would need twice the memory
from_7_cm : every tested_w 700 1100 POWER ≡ true
unfolding tested near
from_7_cm = refl

from_18_cm : every tested_w 1800 1100 (drop 1100 POWER) ≡ true
unfolding tested near
from_18_cm = refl

from_29_cm : every tested_w 2900 1100 (drop 2200 POWER) ≡ true
unfolding tested near
from_29_cm = refl

from_40_cm : every tested_w 4000 1001 (drop 3300 POWER) ≡ true
unfolding tested near
from_40_cm = refl

whole_table : every tested_w least_d 4301 POWER ≡ true
whole_table =
    joined tested_w 700 1100 3201 POWER from_7_cm
    (joined tested_w 1800 1100 2101 (drop 1100 POWER) from_18_cm
    (joined tested_w 2900 1100 1001 (drop 2200 POWER) from_29_cm from_40_cm))

-- what stands in the table for a diameter of the curve
pub power_is_w : (d : ℕ) → least_d ≤ d → d ≤ crown_limit → get_or POWER (d - least_d) 0 ≡ w d
power_is_w d low high =
    let place : least_d + (d - least_d) ≡ d = omega arith in
    let passed = rw place at (at tested_w least_d 4301 POWER whole_table (d - least_d) (omega arith)) in
    sym (w_is d (get_or POWER (d - least_d) 0) passed)
