-- Laws of `div`: it never goes above, and leaves less than one divisor, at either sign.
use Rattle.std.specs.Prelude.{ℕ, zero, suc, ◌+◌, ◌*◌, ◌/◌, ◌≤◌, ◌<◌, ℤ, pos, negsuc, neg_ℤ, ◌+ℤ◌, ◌*ℤ◌, ◌≤ℤ◌, ◌<ℤ◌}
use Rattle.std.proofs.Common.{suc-mul, div-mul-le_self, arith, le→leb, lt→ltb}
use Rattle.std.proofs.Math.Nat.{lt-div-mul-add}
use Rattle.std.proofs.Math.IntN.{suc_ℤ, +ℤ_one}
use Rattle.std.specs.Int.Signed.{le_z_yes, lt_z_yes}
use Rattle.biomass.specs.Whole.{◌div◌}

-- ---- div

-- the order of negative numbers is the other way round
neg_le : (n a : ℕ) → a < n → neg_ℤ (pos n) ≤ℤ (negsuc a)
neg_le zero a h = absurd (omega arith)
neg_le (suc n) a h = le_z_yes (le→leb a n (omega arith))

lt_neg : (n a : ℕ) → n ≤ a → negsuc a <ℤ (neg_ℤ (pos n))
lt_neg zero a h = lt_z_yes tt
lt_neg (suc n) a h = lt_z_yes (lt→ltb n a h)

-- the quotient, taken back, is not above
pub div_not_above : (z : ℤ) (m : ℕ) → 0 < m → ((z div m) *ℤ pos m) ≤ℤ z
div_not_above (pos a) m h = le_z_yes (le→leb (a / m * m) a (div-mul-le_self a m))
div_not_above (negsuc a) m h = neg_le (suc (a / m) * m) a (rw suc-mul (lt-div-mul-add h))

-- and the next whole number, taken back, is above: so a negative number is divided away from 0
pub div_below : (z : ℤ) (m : ℕ) → 0 < m → z <ℤ ((z div m +ℤ pos 1) *ℤ pos m)
div_below (pos a) m h = lt_z_yes (lt→ltb a ((a / m + 1) * m) (omega (arith, lt-div-mul-add {a = a} h)))
div_below (negsuc a) m h = rw +ℤ_one (next (a / m) (div-mul-le_self a m))
  where
    next : (q : ℕ) → q * m ≤ a → negsuc a <ℤ (suc_ℤ (negsuc q) *ℤ pos m)
    next zero le = lt_z_yes tt
    next (suc q) le = lt_neg (suc q * m) a le
