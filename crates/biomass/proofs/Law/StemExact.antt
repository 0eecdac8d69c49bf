-- The exact stem is not under the stem's low and not over its high. Law.Stem has this of the volume V; from there on each step divides by a
-- whole number, rounding down at the low and up at the high, or multiplies by the factor and the gravity. So a low times the denominator of
-- the exact stem is not above its numerator, and a high times it not below.
use Rattle.std.specs.Prelude.{ℕ, ◌+◌, ◌*◌, ◌/◌, ◌^◌, ◌≤◌, ◌≡◌, pos}
use Rattle.std.proofs.Common.{mul-le-mul_right, arith}
use Rattle.std.proofs.Math.IntN.{sub_ℕ}
use Rattle.powers.specs.Diameter.{least_d, greatest_d}
use Rattle.biomass.specs.Stem.{area_scale, stem_ends}
use Rattle.biomass.specs.Fraction.{Fraction, whole, ◌⊕◌, ◌⊖◌, ◌⊗◌, ◌over◌, ◌≼◌}
use Rattle.biomass.specs.Exact.{exact_stem}
use Rattle.biomass.proofs.Law.Signed.{parts, diff, same, add, sub, mul, times, le_from, pos_minus}
use Rattle.biomass.proofs.Law.Volume.{base, steep}
use Rattle.biomass.proofs.Law.Stem.{circle, denominator, K, enclosing, stem_ends_lem}

-- the exact stem from B, A's numerator a and the area's numerator g
abbrev stem_fraction : (b a g f s : ℕ) → Fraction
stem_fraction b a g f s =
    (whole (pos b) ⊕ whole (pos a) over 10 ^ 10 ⊗ (whole (pos g) over area_scale ⊖ whole (pos 118288000))) over 10 ^ 8
    ⊗ whole (pos f)
    ⊗ whole (pos s) over 10000

exact_is : (T d f s : ℕ) → 1 ≤ T → exact_stem T d f s ≡ stem_fraction (base T) (steep T) (circle d) f s
unfolding exact_stem
exact_is T d f s T_least = rw (pos_minus {n = 138763302} {b = 10 ^ 9 * T} (omega arith))

-- its numerator is more − less
abbrev more : (b a g f s : ℕ) → ℕ
more b a g f s = (b * denominator + a * g) * f * s

abbrev less : (a f s : ℕ) → ℕ
less a f s = a * K * f * s

module _ (b a g f s : ℕ) where
  numerator : (stem_fraction b a g f s).num ≡ sub_ℕ (more b a g f s) (less a f s)
  numerator =
      let z = sub (parts (pos (g * 1))) (parts (pos K)) in
      let v = add (parts (pos (b * denominator))) (times (mul (parts (pos a)) z) 1) in
      same (times (times v f) s) (diff (more b a g f s) (less a f s)) (omega arith)

  -- a volume l not above V, of which L whole parts give x
  not_under : (l L x : ℕ) → L * 10 ^ 8 ≤ l → x * 10000 ≤ L * f * s → l * denominator + a * K ≤ b * denominator + a * g
      → whole (pos x) ≼ stem_fraction b a g f s
  not_under l L x parts_fit x_fits below =
      let weighed = mul-le-mul_right (f * s) below in
      let parts_weighed = mul-le-mul_right (f * s) parts_fit in
      record { cross = rw numerator (le_from (parts (pos _)) (times (diff (more b a g f s) (less a f s)) 1) (omega arith)) }

  -- a volume h not below V, for which H whole parts, enough for h, give x
  not_over : (h H x : ℕ) → h ≤ H * 10 ^ 8 → H * f * s ≤ x * 10000 → b * denominator + a * g ≤ h * denominator + a * K
      → stem_fraction b a g f s ≼ whole (pos x)
  not_over h H x parts_reach x_reaches above =
      let weighed = mul-le-mul_right (f * s) above in
      let parts_weighed = mul-le-mul_right (f * s) parts_reach in
      record { cross = rw numerator (le_from (times (diff (more b a g f s) (less a f s)) 1) (parts (pos _)) (omega arith)) }

pub stem_not_under : (T d f s : ℕ) → 1 ≤ T → T ≤ 50 → least_d ≤ d → d ≤ greatest_d → whole (stem_ends T d f s).low ≼ exact_stem T d f s
stem_not_under T d f s T_least T_most d_least d_most =
    let v = enclosing T d (T_least, T_most, d_least, d_most) in
    let L = v.least / 10 ^ 8 in
    rw (stem_ends_lem v.ends f s, exact_is T d f s T_least)
    (not_under (base T) (steep T) (circle d) f s v.least L (L * f * s / 10000) (omega arith) (omega arith) v.not_under)

pub stem_not_over : (T d f s : ℕ) → 1 ≤ T → T ≤ 50 → least_d ≤ d → d ≤ greatest_d → exact_stem T d f s ≼ whole (stem_ends T d f s).high
stem_not_over T d f s T_least T_most d_least d_most =
    let v = enclosing T d (T_least, T_most, d_least, d_most) in
    let H = v.greatest / 10 ^ 8 + 1 in
    rw (stem_ends_lem v.ends f s, exact_is T d f s T_least)
    (not_over (base T) (steep T) (circle d) f s v.greatest H (H * f * s / 10000 + 1) (omega arith) (omega arith) v.not_over)
