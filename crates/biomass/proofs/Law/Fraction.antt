-- Laws of fractions: their order is one, and sums and products by what is not below 0 keep it. A comparison of two
-- fractions is one of naturals (`to_nat`, `from_nat`), numerators taken apart as plus − minus; those are proved by multiplying out.
-- A denominator of a sum, a product or an exact division is the product of two, so `mul-pos` of ℕ says that it is above 0.
use Rattle.std.specs.Prelude.{ℕ, ◌+◌, ◌*◌, ◌/◌, ◌≤◌, ◌<◌, ◌≡◌, ℤ, pos, ◌+ℤ◌, ◌≤ℤ◌}
use Rattle.std.proofs.Common.{zero-le, mul-le-mul_left, one-mul, mul-one, arith}
use Rattle.std.proofs.Math.Nat.{le_of_mul-le-mul_left}
use Rattle.std.proofs.Math.IntN.{one, *ℤ-one}
use Rattle.biomass.specs.Whole.{◌div◌}
use Rattle.biomass.specs.Fraction.{Fraction, whole, ◌⊕◌, ◌⊗◌, ◌over◌, ◌≼◌}
use Rattle.biomass.proofs.Law.Whole.{div_not_above, div_below}
use Rattle.biomass.proofs.Law.Signed.{plus, minus, parts, add, mul, times, not_below_zero, le_from, le_to, pos_le, ≤ℤ-of-lt}

-- x ≼ y, said in ℕ
abbrev NatLe : Fraction → Fraction → Type 0
NatLe x y = plus x.num * y.den + minus y.num * x.den ≤ plus y.num * x.den + minus x.num * y.den

to_nat : {x y : Fraction} → x ≼ y → NatLe x y
to_nat {x} {y} h = le_to (times (parts x.num) y.den) (times (parts y.num) x.den) h.cross

from_nat : {x y : Fraction} → NatLe x y → x ≼ y
from_nat {x} {y} h = record { cross = le_from (times (parts x.num) y.den) (times (parts y.num) x.den) h }

pub ≼_refl : (x : Fraction) → x ≼ x
≼_refl x = from_nat (omega arith)

-- through a fraction whose denominator is above 0
pub ≼_trans : {x y z : Fraction} → 0 < y.den → x ≼ y → y ≼ z → x ≼ z
≼_trans {x} {y} {z} some h k =
    let h' = mul-le-mul_left z.den (to_nat h) in
    let k' = mul-le-mul_left x.den (to_nat k) in
    from_nat (le_of_mul-le-mul_left {k = y.den} (omega arith) some)

-- two comparisons with the same denominators, added
sums_ordered : (a a' b b' u u' v v' m n : ℕ) → a * m + u' * n ≤ a' * n + u * m → b * m + v' * n ≤ b' * n + v * m
    → (a + b) * m + (u' + v') * n ≤ (a' + b') * n + (u + v) * m
sums_ordered a a' b b' u u' v v' m n h k = omega arith

pub ⊕_mono : {x x' y y' : Fraction} → x ≼ x' → y ≼ y' → x ⊕ y ≼ x' ⊕ y'
⊕_mono {x} {x'} {y} {y'} h k =
    record {
      cross =
          le_from
          (times (add (times (parts x.num) y.den) (times (parts y.num) x.den)) (x'.den * y'.den))
          (times (add (times (parts x'.num) y'.den) (times (parts y'.num) x'.den)) (x.den * y.den))
          (sums_ordered _ _ _ _ _ _ _ _ _ _
          (omega (arith, mul-le-mul_left (y.den * y'.den) (to_nat h)))
          (omega (arith, mul-le-mul_left (x.den * x'.den) (to_nat k))));
    }

-- by a factor that is not below 0
pub ⊗_mono : {x y : Fraction} (c : Fraction) → (pos 0) ≤ℤ c.num → x ≼ y → c ⊗ x ≼ c ⊗ y
⊗_mono {x} {y} c some h =
    let factor = not_below_zero some in
    record {
      cross =
          le_from
          (times (mul factor (parts x.num)) (c.den * y.den))
          (times (mul factor (parts y.num)) (c.den * x.den))
          (omega (arith, mul-le-mul_left (plus c.num * c.den) (to_nat h)));
    }

-- ---- whole numbers

pub whole-⊕ : (a b : ℤ) → whole a ⊕ whole b ≡ whole (a +ℤ b)
unfolding one
whole-⊕ a b = rw (*ℤ-one a, *ℤ-one b)

-- a quotient is not above the exact division, and the next whole number is not below it
pub floor : (n : ℤ) (m : ℕ) → 0 < m → whole (n div m) ≼ whole n over m
unfolding one
floor n m some = record { cross = rw (*ℤ-one, one-mul) (div_not_above n m some) }

pub ceiling : (n : ℤ) (m : ℕ) → 0 < m → whole n over m ≼ whole (n div m +ℤ pos 1)
unfolding one
ceiling n m some = record { cross = rw (*ℤ-one, one-mul) (≤ℤ-of-lt (div_below n m some)) }

-- ---- n / m of what is between two naturals: "N·mL div 100", "11·(sum of row lows) div 6000", and the highs with 1 added

module _ {x : Fraction} (n m end : ℕ) (some : 0 < m) where
  pub share_not_under : whole (pos end) ≼ x → whole (pos (n * end / m)) ≼ whole (pos n) over m ⊗ x
  share_not_under h =
      ≼_trans {y = whole (pos n) over m ⊗ whole (pos end)} (omega arith)
      (rw mul-one (floor (pos (n * end)) m some)) (⊗_mono (whole (pos n) over m) (pos_le zero-le) h)

  pub share_not_over : x ≼ whole (pos end) → whole (pos n) over m ⊗ x ≼ whole (pos (n * end / m + 1))
  share_not_over h =
      ≼_trans {y = whole (pos n) over m ⊗ whole (pos end)} (omega arith)
      (⊗_mono (whole (pos n) over m) (pos_le zero-le) h) (rw mul-one (ceiling (pos (n * end)) m some))

-- none of it is not above 0
pub no_share : (m : ℕ) (x : Fraction) → whole (pos 0) over m ⊗ x ≼ whole (pos 0)
no_share m x = record { cross = le_from (times (mul (parts (pos 0)) (parts x.num)) 1) (times (parts (pos 0)) (1 * m * x.den)) (omega arith) }
