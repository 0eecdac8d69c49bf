-- The exact value of the crown, the root, a tree and a row lies between the ends that steps 5 to 7 give: "Not under the low" whatever
-- fractions not below the powers are given, "Not over the high" whatever fractions not above them. Each div goes down and each high adds 1,
-- so a low is not above and a high not below the exact division (Law.Fraction); sums and products keep that. Law.StemExact has the stem.
-- And with fractions not above the powers a tree is not above what it is with fractions not below them.
use Rattle.std.specs.Prelude.{ℕ, zero, suc, ◌+◌, ◌*◌, ◌^◌, ◌≤◌, ◌<◌, cond, ◌≡◌, leb, ℤ, pos, nat_abs, ◌+ℤ◌, ◌*ℤ◌, ◌≤ℤ◌}
use Rattle.std.proofs.Common.{mul-le-mul_left, mul-pos, arith, sym, ap, ◌∙◌, subst}
use Rattle.std.proofs.Math.Dec.{lit<, eqb-suc-zero}
use Rattle.biomass.specs.Whole.{◌div◌}
use Rattle.biomass.specs.Report.{gives}
use Rattle.powers.specs.Diameter.{units_to_cm, crown_limit, root_limit}
use Rattle.biomass.specs.Ends.{Ends, curve, straight}
use Rattle.powers.specs.Crown.{w}
use Rattle.biomass.specs.Crown as Crown
use Rattle.biomass.specs.Crown.{crown_ends}
use Rattle.biomass.specs.Root as Root
use Rattle.biomass.specs.Root.{root_ends}
use Rattle.biomass.specs.Tree.{tree, row_biomass, row_low, row_high}
use Rattle.biomass.specs.Fraction.{Fraction, whole, ◌⊕◌, ◌⊗◌, ◌over◌, ◌≼◌}
use Rattle.biomass.specs.Exact.{Given, value, NotBelowCrown, NotAboveCrown, NotBelowRoot, NotAboveRoot, exact_line, exact_stem, exact_crown, exact_root, exact_tree, exact_row, NotBelow, NotAbove}
use Rattle.biomass.proofs.Law.Signed.{pos_le}
use Rattle.biomass.proofs.Law.Fraction.{≼_refl, ≼_trans, ⊕_mono, ⊗_mono, whole-⊕, floor, ceiling, share_not_under, share_not_over, no_share}
use Rattle.biomass.proofs.Law.Ends.{Bounded, Coefficient, either_side}
use Rattle.biomass.proofs.Law.Power.{crown_power_not_under, crown_power_not_over, crown_powers_ordered, root_power_not_under, root_power_not_over, root_powers_ordered}
use Rattle.biomass.proofs.Law.Crown.{crown_k, crown_k_not_below}
use Rattle.biomass.proofs.Law.Root.{root_b, root_b_not_below}
use Rattle.biomass.proofs.Law.StemExact.{stem_not_under, stem_not_over}
use Rattle.biomass.proofs.Law.Tree.{tree_gives, parts_bounded, row_gives}
use Rattle.biomass.specs.Units.{BiomassRange}
use Rattle.biomass.specs.declared.tree.AverageTree.{AverageTree}

-- ---- denominators are above 0, so that `≼` says of these fractions what it seems to say

module _ (g d : ℕ) (power : Given) where
  crown_den : 0 < (exact_crown g d power).den
  unfolding exact_crown
  crown_den =
      either_side (λ t. 0 < (cond t (whole (Crown.k g) over 10 ⊗ value power) (exact_line (Crown.a g) (Crown.b g) d)).den) d crown_limit
      (λ on_curve. omega (arith, power.t_at_least_1)) (λ on_line. lit< tt)

  root_den : 0 < (exact_root g d power).den
  unfolding exact_root
  root_den =
      either_side (λ t. 0 < (cond t (whole (Root.curve_b g) ⊗ value power) (exact_line (Root.line_a g) (Root.line_b g) d)).den) d root_limit
      (λ on_curve. omega (arith, power.t_at_least_1)) (λ on_line. lit< tt)

stem_den : (T d f s : ℕ) → 0 < (exact_stem T d f s).den
unfolding exact_stem
stem_den T d f s = lit< tt

pub tree_den : (t : AverageTree) (crown_power root_power : Given) → 0 < (exact_tree t crown_power root_power).den
tree_den t crown_power root_power =
    mul-pos (mul-pos (stem_den t.tariff t.d t.factor t.gravity) (crown_den t.crown t.d crown_power)) (root_den t.root t.d root_power)

pub row_den : (N : ℕ) (t : AverageTree) (crown_power root_power : Given) → 0 < (exact_row N t crown_power root_power).den
row_den N t crown_power root_power = mul-pos (lit< tt) (tree_den t crown_power root_power)

-- ---- the crown and the root

-- Up to a limit they are a curve, above it a straight line. The curve is a coefficient k, in q-ths of a mg, times a power of the diameter; p is
-- its whole hundred-thousandths, w or y. So the power times k / q, and k·p over 10^5·q, are compared by p·t and 10^5·r (Law.Power).
module _ (k start rise : ℤ) {most : ℕ} (c : Coefficient k most) (q : ℕ) (some : 0 < q) (power : Given) (d limit p : ℕ) where
  part_not_under : (d ≤ limit → p * power.t ≤ 10 ^ 5 * power.r)
      → whole (cond (leb d limit) (curve k p (10 ^ 5 * q)) (straight start rise d)).low
      ≼ cond (leb d limit) (whole k over q ⊗ value power) (exact_line start rise d)
  part_not_under not_below =
      either_side
      (λ t. whole (cond t (curve k p (10 ^ 5 * q)) (straight start rise d)).low ≼ cond t (whole k over q ⊗ value power) (exact_line start rise d))
      d limit (λ on_curve. on_curve_side (not_below on_curve)) (λ on_line. floor _ units_to_cm (lit< tt))
    where
      on_curve_side : p * power.t ≤ 10 ^ 5 * power.r → whole ((k *ℤ pos p) div (10 ^ 5 * q)) ≼ whole k over q ⊗ value power
      on_curve_side h =
          ≼_trans {y = whole (k *ℤ pos p) over (10 ^ 5 * q)} (omega arith) (floor (k *ℤ pos p) (10 ^ 5 * q) (omega arith))
          (subst (λ z. whole (z *ℤ pos p) over (10 ^ 5 * q) ≼ whole z over q ⊗ value power) (sym c.is_whole)
          (record { cross = pos_le (omega (arith, mul-le-mul_left (nat_abs k * q) h)) }))

  part_not_over : (d ≤ limit → 10 ^ 5 * power.r ≤ (p + 1) * power.t)
      → cond (leb d limit) (whole k over q ⊗ value power) (exact_line start rise d)
      ≼ whole (cond (leb d limit) (curve k p (10 ^ 5 * q)) (straight start rise d)).high
  part_not_over not_above =
      either_side
      (λ t. cond t (whole k over q ⊗ value power) (exact_line start rise d) ≼ whole (cond t (curve k p (10 ^ 5 * q)) (straight start rise d)).high)
      d limit (λ on_curve. on_curve_side (not_above on_curve)) (λ on_line. ceiling _ units_to_cm (lit< tt))
    where
      on_curve_side : 10 ^ 5 * power.r ≤ (p + 1) * power.t → whole k over q ⊗ value power ≼ whole ((k *ℤ pos (p + 1)) div (10 ^ 5 * q) +ℤ pos 1)
      on_curve_side h =
          ≼_trans {y = whole (k *ℤ pos (p + 1)) over (10 ^ 5 * q)} (omega arith)
          (subst (λ z. whole z over q ⊗ value power ≼ whole (z *ℤ pos (p + 1)) over (10 ^ 5 * q)) (sym c.is_whole)
          (record { cross = pos_le (omega (arith, mul-le-mul_left (nat_abs k * q) h)) }))
          (ceiling (k *ℤ pos (p + 1)) (10 ^ 5 * q) (omega arith))

module _ (g d : ℕ) (power : Given) (in_table : g ≤ 7) where
  pub crown_not_under : (d ≤ crown_limit → NotBelowCrown d power) → whole (crown_ends g d).low ≼ exact_crown g d power
  unfolding crown_ends exact_crown
  crown_not_under not_below =
      part_not_under (Crown.k g) (Crown.a g) (Crown.b g) (crown_k g in_table) 10 (lit< tt) power d crown_limit (w d)
      (λ on_curve. crown_power_not_under d power (not_below on_curve))

  pub crown_not_over : (d ≤ crown_limit → NotAboveCrown d power) → exact_crown g d power ≼ whole (crown_ends g d).high
  unfolding crown_ends exact_crown
  crown_not_over not_above =
      part_not_over (Crown.k g) (Crown.a g) (Crown.b g) (crown_k g in_table) 10 (lit< tt) power d crown_limit (w d)
      (λ on_curve. crown_power_not_over d power (not_above on_curve))

module _ (g d : ℕ) (power : Given) (in_table : g ≤ 5) where
  pub root_not_under : (d ≤ root_limit → NotBelowRoot d power) → whole (root_ends g d).low ≼ exact_root g d power
  unfolding root_ends exact_root
  root_not_under not_below =
      part_not_under (Root.curve_b g) (Root.line_a g) (Root.line_b g) (root_b g in_table) 1 (lit< tt) power d root_limit (Root.y d)
      (λ on_curve. root_power_not_under d power (not_below on_curve))

  pub root_not_over : (d ≤ root_limit → NotAboveRoot d power) → exact_root g d power ≼ whole (root_ends g d).high
  unfolding root_ends exact_root
  root_not_over not_above =
      part_not_over (Root.curve_b g) (Root.line_a g) (Root.line_b g) (root_b g in_table) 1 (lit< tt) power d root_limit (Root.y d)
      (λ on_curve. root_power_not_over d power (not_above on_curve))

-- A part is the greater, the greater its power: the coefficient is not below 0, and the straight line uses no power
part_ordered : (k start rise : ℤ) (q : ℕ) (power power' : Given) (d limit : ℕ) → (pos 0) ≤ℤ k
    → (d ≤ limit → power.r * power'.t ≤ power'.r * power.t)
    → cond (leb d limit) (whole k over q ⊗ value power) (exact_line start rise d)
    ≼ cond (leb d limit) (whole k over q ⊗ value power') (exact_line start rise d)
part_ordered k start rise q power power' d limit not_below h =
    either_side
    (λ t. cond t (whole k over q ⊗ value power) (exact_line start rise d) ≼ cond t (whole k over q ⊗ value power') (exact_line start rise d))
    d limit (λ on_curve. ⊗_mono (whole k over q) not_below (record { cross = pos_le (omega (arith, h on_curve)) }))
    (λ on_line. ≼_refl (exact_line start rise d))

-- ---- one tree

-- Three parts added: the ends as `range` has them, which are the same numbers, against the exact values
whole_sum : (a b c : ℕ) → whole (pos a) ⊕ whole (pos b) ⊕ whole (pos c) ≡ whole (pos (a + b + c))
whole_sum a b c = ap (λ x. x ⊕ whole (pos c)) (whole-⊕ (pos a) (pos b)) ∙ whole-⊕ (pos (a + b)) (pos c)

module _ {gap gap' gap'' most most' most'' : ℕ} {e e' e'' : Ends} {x x' x'' : Fraction}
    (b : Bounded e gap most) (b' : Bounded e' gap' most') (b'' : Bounded e'' gap'' most'') where
  sum_not_under : whole e.low ≼ x → whole e'.low ≼ x' → whole e''.low ≼ x''
      → whole (pos (nat_abs e.low + nat_abs e'.low + nat_abs e''.low)) ≼ x ⊕ x' ⊕ x''
  sum_not_under h h' h'' =
      subst (λ l. l ≼ x ⊕ x' ⊕ x'') (whole_sum (nat_abs e.low) (nat_abs e'.low) (nat_abs e''.low))
      (⊕_mono (⊕_mono (rw b.low_whole at h) (rw b'.low_whole at h')) (rw b''.low_whole at h''))

  sum_not_over : x ≼ whole e.high → x' ≼ whole e'.high → x'' ≼ whole e''.high
      → x ⊕ x' ⊕ x'' ≼ whole (pos (nat_abs e.high + nat_abs e'.high + nat_abs e''.high))
  sum_not_over h h' h'' =
      subst (λ l. x ⊕ x' ⊕ x'' ≼ l) (whole_sum (nat_abs e.high) (nat_abs e'.high) (nat_abs e''.high))
      (⊕_mono (⊕_mono (rw b.high_whole at h) (rw b'.high_whole at h')) (rw b''.high_whole at h''))

module _ (t : AverageTree) (m : BiomassRange) (e : tree t ≡ gives m) (crown_power root_power : Given) where
  pub tree_not_under : NotBelow t crown_power root_power → whole (pos m.low.0) ≼ exact_tree t crown_power root_power
  tree_not_under n =
      let g = tree_gives t m e in
      let o = g.operands in
      let b = parts_bounded o in
      let on_stem = stem_not_under t.tariff t.d t.factor t.gravity o.tariff.least o.tariff.most o.d.least o.d.most in
      let on_crown = crown_not_under t.crown t.d crown_power o.crown.most n.on_crown in
      let on_root = root_not_under t.root t.d root_power o.root.most n.on_root in
      rw g.is (sum_not_under b.on_stem b.on_crown b.on_root on_stem on_crown on_root)

  pub tree_not_over : NotAbove t crown_power root_power → exact_tree t crown_power root_power ≼ whole (pos m.high.0)
  tree_not_over n =
      let g = tree_gives t m e in
      let o = g.operands in
      let b = parts_bounded o in
      let on_stem = stem_not_over t.tariff t.d t.factor t.gravity o.tariff.least o.tariff.most o.d.least o.d.most in
      let on_crown = crown_not_over t.crown t.d crown_power o.crown.most n.on_crown in
      let on_root = root_not_over t.root t.d root_power o.root.most n.on_root in
      rw g.is (sum_not_over b.on_stem b.on_crown b.on_root on_stem on_crown on_root)

-- With powers that are not above it is not above what it is with powers that are not below
module _ (t : AverageTree) (crown_power root_power crown_power' root_power' : Given) where
  pub tree_ordered : NotAbove t crown_power root_power → NotBelow t crown_power' root_power'
      → exact_tree t crown_power root_power ≼ exact_tree t crown_power' root_power'
  unfolding exact_crown exact_root
  tree_ordered n n' =
      let on_crown =
      part_ordered (Crown.k t.crown) (Crown.a t.crown) (Crown.b t.crown) 10 crown_power crown_power' t.d crown_limit (crown_k_not_below t.crown)
      (λ on_curve. crown_powers_ordered t.d crown_power crown_power' (n.on_crown on_curve) (n'.on_crown on_curve)) in
      let on_root =
      part_ordered (Root.curve_b t.root) (Root.line_a t.root) (Root.line_b t.root) 1 root_power root_power' t.d root_limit (root_b_not_below t.root)
      (λ on_curve. root_powers_ordered t.d root_power root_power' (n.on_root on_curve) (n'.on_root on_curve)) in
      ⊕_mono (⊕_mono (≼_refl (exact_stem t.tariff t.d t.factor t.gravity)) on_crown) on_root

-- ---- one row

-- N / 100 of a tree is not over the row's high, also where N is 0 and no 1 is added
row_high_lem : (N : ℕ) (one : BiomassRange) {x : Fraction} → x ≼ whole (pos one.high.0) → whole (pos N) over 100 ⊗ x ≼ whole (pos (row_high N one))
row_high_lem zero one {x} h = no_share 100 x
row_high_lem (suc n) one h = rw (eqb-suc-zero n) (share_not_over (suc n) 100 one.high.0 (lit< tt) h)

-- Each end by itself, of a tree that gives m and its own number of them
module _ (N : ℕ) (t : AverageTree) (m : BiomassRange) (e : tree t ≡ gives m) (crown_power root_power : Given) where
  pub low_not_under : NotBelow t crown_power root_power → whole (pos (row_low N m)) ≼ exact_row N t crown_power root_power
  low_not_under n = share_not_under N 100 m.low.0 (lit< tt) (tree_not_under t m e crown_power root_power n)

  pub high_not_over : NotAbove t crown_power root_power → exact_row N t crown_power root_power ≼ whole (pos (row_high N m))
  high_not_over n = row_high_lem N m (tree_not_over t m e crown_power root_power n)

-- Both, with one number
module _ (N : ℕ) (t : AverageTree) (m : BiomassRange) (e : row_biomass N t ≡ gives m) (crown_power root_power : Given) where
  pub row_not_under : NotBelow t crown_power root_power → whole (pos m.low.0) ≼ exact_row N t crown_power root_power
  row_not_under n =
      let g = row_gives N t m e in
      rw g.is (low_not_under N t g.one g.one_is crown_power root_power n)

  pub row_not_over : NotAbove t crown_power root_power → exact_row N t crown_power root_power ≼ whole (pos m.high.0)
  row_not_over n =
      let g = row_gives N t m e in
      rw g.is (high_not_over N t g.one g.one_is crown_power root_power n)
