-- Laws of the volume, step 4: in range VL and VH are naturals within 64 bits.
-- VL stays above 0 where z is below it: the least area is 3848450, so −z is at most 114439550, and A + 1 times that is below B by 5·10^14
-- at every tariff, since A is at most 0.0315049301·(10^9·T − 138763302).
use Rattle.std.specs.Prelude.{ℕ, suc, ◌+◌, ◌-◌, ◌*◌, ◌/◌, ◌^◌, ◌≤◌, ◌<◌, ◌≡◌, pos, ◌+ℤ◌, ◌*ℤ◌}
use Rattle.std.proofs.Common.{le_refl, mul-le-mul, arith, ◌∙◌}
use Rattle.std.proofs.Math.Path.{ap}
use Rattle.std.proofs.Math.Dec.{leb-zero}
use Rattle.std.proofs.Math.IntN.{negsuc}
use Rattle.biomass.specs.Bounds.{InRange, greatest_volume}
use Rattle.biomass.specs.Whole.{◌div◌}
use Rattle.biomass.specs.Stem.{G, A, z, VL, VH}
use Rattle.biomass.proofs.Law.Signed.{parts, add, mul, same, pos_minus, pos_minus_more}

-- l and h are VL and VH, which in range are above 0, and h is not above the greatest
pub record Volumes (T d l h : ℕ) : Type 0 where
  pub low : VL T d ≡ pos l
  pub high : VH T d ≡ pos h
  pub most : h ≤ greatest_volume

-- ---- step 4's numbers as naturals

-- A's numerator, A and B
abbrev pub steep : ℕ → ℕ
steep T = 315049301 * (10 ^ 9 * T - 138763302)

abbrev pub slope : ℕ → ℕ
slope T = steep T / 10 ^ 10

abbrev pub base : ℕ → ℕ
base T = 360541 * 10 ^ 10 * T

-- z where it is 0 or above, and −z where it is below
abbrev pub excess : ℕ → ℕ
excess d = G d - 118288000

abbrev pub deficit : ℕ → ℕ
deficit d = 118288000 - G d

-- VL and VH where z is below 0
abbrev pub low_under : ℕ → ℕ → ℕ
low_under T d = base T - (slope T + 1) * deficit d

abbrev pub high_under : ℕ → ℕ → ℕ
high_under T d = base T - slope T * (deficit d - 1)

pub slope_is : (T : ℕ) → 1 ≤ T → A T ≡ pos (slope T)
slope_is T t = ap (λ x. (pos 315049301 *ℤ x) div 10 ^ 10) (pos_minus {n = 138763302} {b = 10 ^ 9 * T} (omega arith))

-- B + A·z and B + A·(z + 1) at z = −u
fall : (b s u : ℕ) → 1 ≤ u → s * u ≤ b → pos b +ℤ pos s *ℤ negsuc (u - 1) ≡ pos (b - s * u)
fall b s u some fits =
    let u_is : suc (u - 1) ≡ u = omega arith in
    same (add (parts (pos b)) (mul (parts (pos s)) (parts (negsuc (u - 1))))) (parts (pos (b - s * u)))
    (omega (arith, ap (λ v. s * v) u_is))

fall_by_one_less : (b s u : ℕ) → s * (u - 1) ≤ b → pos b +ℤ pos s *ℤ (negsuc (u - 1) +ℤ pos 1) ≡ pos (b - s * (u - 1))
fall_by_one_less b s u fits =
    same (add (parts (pos b)) (mul (parts (pos s)) (add (parts (negsuc (u - 1))) (parts (pos 1))))) (parts (pos (b - s * (u - 1))))
    (omega arith)

module _ (T d : ℕ) (r : InRange T d) where
  pub slope_most : slope T ≤ 1570874776
  slope_most = omega arith

  pub over_most : excess d ≤ 667110162
  over_most = omega (arith, mul-le-mul r.3 r.3)

  pub under_most : deficit d ≤ 114439550
  under_most = omega (arith, mul-le-mul r.2 r.2)

  -- the most that is added to the base, and that what is taken from it leaves it 0 or above
  pub rise_fits : (slope T + 1) * (excess d + 1) ≤ 1570874777 * 667110163
  rise_fits =
      let slope_fits : slope T + 1 ≤ 1570874777 = omega (arith, slope_most) in
      let over_fits : excess d + 1 ≤ 667110163 = omega (arith, over_most) in
      mul-le-mul slope_fits over_fits

  pub greater_fall_fits : (slope T + 1) * deficit d ≤ base T
  greater_fall_fits = omega (arith, mul-le-mul (le_refl (slope T + 1)) under_most)

  pub lesser_fall_fits : slope T * (deficit d - 1) ≤ base T
  lesser_fall_fits =
      let less : slope T ≤ slope T + 1 = omega arith in
      let one_less : deficit d - 1 ≤ deficit d = omega arith in
      omega (arith, greater_fall_fits, mul-le-mul less one_less)

  pub volumes_over : 118288000 ≤ G d → Volumes T d (base T + slope T * excess d) (base T + (slope T + 1) * (excess d + 1))
  unfolding VL VH
  volumes_over k = record {
    low = rw (slope_is T r.0, pos_minus {n = 118288000} {b = G d} k, leb-zero);
    high = rw (slope_is T r.0, pos_minus {n = 118288000} {b = G d} k, leb-zero);
    most = omega (arith, rise_fits);
  }

  pub volumes_under : G d < 118288000 → Volumes T d (base T - (slope T + 1) * deficit d) (base T - slope T * (deficit d - 1))
  unfolding VL VH
  volumes_under k =
      let z_is : z d ≡ negsuc (deficit d - 1) = pos_minus_more k ∙ ap negsuc (omega arith) in
      record {
        low = rw (slope_is T r.0, z_is) (fall (base T) (slope T + 1) (deficit d) (omega arith) greater_fall_fits);
        high = rw (slope_is T r.0, z_is) (fall_by_one_less (base T) (slope T) (deficit d) lesser_fall_fits);
        most = omega arith;
      }
