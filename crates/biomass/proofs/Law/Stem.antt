-- Laws of the stem, step 4: in range VL and VH (Law.Volume) are near each other, and the volume by exact division lies between them (Law.StemExact takes this
-- on to the stem's biomass).
use Rattle.std.specs.Prelude.{ℕ, ◌+◌, ◌-◌, ◌*◌, ◌/◌, ◌^◌, ◌≤◌, ◌<◌, ◌≡◌, refl, pos}
use Rattle.std.proofs.Math.Decide.{dec_le}
use Rattle.std.proofs.Common.{le_refl, mul-le-mul, arith}
use Rattle.std.proofs.Math.Path.{ap}
use Rattle.biomass.specs.Bounds.{InRange, greatest_stem, greatest_volume, stem_high, stem_low}
use Rattle.powers.specs.Diameter.{least_d, greatest_d}
use Rattle.biomass.specs.Stem.{area_scale, G, stem_ends}
use Rattle.biomass.proofs.Law.Ends.{Bounded}
use Rattle.biomass.proofs.Law.Volume.{Volumes, steep, slope, base, excess, deficit, low_under, high_under, slope_most, over_most, under_most, greater_fall_fits, lesser_fall_fits, volumes_over, volumes_under}

-- ---- the exact volume: V = B + A·z by exact division is (base·D + steep·(circle − K)) over D

abbrev pub circle : ℕ → ℕ
circle d = 314159265 * (d * d)

abbrev pub denominator : ℕ
denominator = 10 ^ 10 * area_scale

abbrev pub K : ℕ
K = 118288000 * area_scale

-- VL and VH in range: near each other, V not under VL, V not over VH
pub record Enclosing (T d : ℕ) : Type 0 where
  pub least : ℕ
  pub greatest : ℕ
  pub ends : Volumes T d least greatest
  pub ordered : least ≤ greatest
  pub near : greatest ≤ least + 2237984939
  pub not_under : least * denominator + steep T * K ≤ base T * denominator + steep T * circle d
  pub not_over : base T * denominator + steep T * circle d ≤ greatest * denominator + steep T * K

module _ (T d : ℕ) (r : InRange T d) where
  slope_low : slope T * 10 ^ 10 ≤ steep T
  slope_low = omega arith

  slope_high : steep T ≤ (slope T + 1) * 10 ^ 10
  slope_high = omega arith

  -- z ≥ 0: VH − VL is A + z + 1. x over area_scale is the exact z
  enclosing_over : 118288000 ≤ G d → Enclosing T d
  enclosing_over k =
      let x = circle d - K in
      let x_is : circle d ≡ K + x = omega arith in
      let x_low : excess d * area_scale ≤ x = omega arith in
      let x_high : x ≤ (excess d + 1) * area_scale = omega arith in
      record {
        least = base T + slope T * excess d;
        greatest = base T + (slope T + 1) * (excess d + 1);
        ends = volumes_over T d r k;
        ordered = omega arith;
        near = omega (arith, slope_most T d r, over_most T d r);
        not_under = omega (arith, mul-le-mul slope_low x_low, ap (λ y. steep T * y) x_is);
        not_over = omega (arith, mul-le-mul slope_high x_high, ap (λ y. steep T * y) x_is);
      }

  -- z < 0: VH − VL is A − z. x over area_scale is the exact −z, so the greater slope gives the low
  near_under :
      G d < 118288000 →
      (low_under T d ≤ high_under T d) × (high_under T d ≤ low_under T d + 2237984939)
  near_under k =
      let under_is : deficit d ≡ deficit d - 1 + 1 = omega arith in
      omega (arith, ap (λ u. slope T * u) under_is, slope_most T d r, under_most T d r)

  enclosing_under : G d < 118288000 → Enclosing T d
  enclosing_under k =
      let x = K - circle d in
      let x_is : K ≡ circle d + x = omega arith in
      let x_low : (deficit d - 1) * area_scale ≤ x = omega arith in
      let x_high : x ≤ deficit d * area_scale = omega arith in
      record {
        least = low_under T d;
        greatest = high_under T d;
        ends = volumes_under T d r k;
        ordered = (near_under k).0;
        near = (near_under k).1;
        not_under = omega (arith, greater_fall_fits T d r, mul-le-mul slope_high x_high, ap (λ y. steep T * y) x_is);
        not_over = omega (arith, lesser_fall_fits T d r, mul-le-mul slope_low x_low, ap (λ y. steep T * y) x_is);
      }

  pub enclosing : Enclosing T d
  enclosing = elim (dec_le 118288000 (G d)) [ yes k ↦ enclosing_over k | no k ↦ enclosing_under (omega arith) ]

-- ---- the stem's ends from those of its volume

pub stem_ends_lem : {T d l h : ℕ} → Volumes T d l h → (f s : ℕ)
    → stem_ends T d f s ≡ record { low = pos (stem_low l f s); high = pos (stem_high h f s) }
unfolding stem_ends
stem_ends_lem v f s = rw (v.low, v.high)

-- v, an L or an H, times a factor and a gravity in range. Where the volume is within 64 bits, so are these
pub record Weighed (v f s : ℕ) : Type 0 where
  pub by_factor : v * f ≤ 2 ^ 64 / 10 ^ 8 * 200
  pub by_gravity : v * f * s ≤ 2 ^ 64 / 10 ^ 8 * 200 * 100

pub weighed : {v f s : ℕ} → v ≤ 2 ^ 64 / 10 ^ 8 → f ≤ 200 → s ≤ 100 → Weighed v f s
weighed v_most f_most s_most =
    record { by_factor = mul-le-mul v_most f_most; by_gravity = mul-le-mul (mul-le-mul v_most f_most) s_most }

-- H is at most L + 24, so that the two quotients by 10000 are at most 24·2 apart
pub stem_bounded : (T d f s : ℕ) → 1 ≤ T → T ≤ 50 → least_d ≤ d → d ≤ greatest_d → f ≤ 200 → s ≤ 100 → Bounded (stem_ends T d f s) 50 greatest_stem
stem_bounded T d f s T_least T_most d_least d_most f_most s_most =
    let v = enclosing T d (T_least, T_most, d_least, d_most) in
    let L = v.least / 10 ^ 8 in
    let H = v.greatest / 10 ^ 8 + 1 in
    let ordered : L ≤ H = omega (arith, v.ordered) in
    let near : H ≤ L + 24 = omega (arith, v.near) in
    let small : H ≤ greatest_volume / 10 ^ 8 + 1 = omega (arith, v.ends.most) in
    rw (stem_ends_lem v.ends f s)
    (record {
      low_whole = refl;
      high_whole = refl;
      ordered = omega (arith, mul-le-mul (mul-le-mul ordered (le_refl f)) (le_refl s));
      near = omega (arith, mul-le-mul (mul-le-mul near (le_refl f)) (le_refl s), mul-le-mul f_most s_most);
      small = omega (arith, mul-le-mul (mul-le-mul small f_most) s_most);
    })
