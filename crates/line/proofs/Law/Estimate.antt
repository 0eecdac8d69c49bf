-- Laws of what is estimated of a line: the exact value of the line lies from its low to its high, which are near each other and fit 64 bits. The measured
-- part has that by steps 4 to 7 (biomass/proofs/Law/Exact.antt, Law/Tree.antt), the small trees by themselves (Law/SmallTrees.antt), and sums keep it.
use Rattle.std.specs.Prelude.{ℕ, zero, suc, ◌+◌, ◌≤◌, ◌<◌, ◌≡◌, pos}
use Rattle.std.proofs.Common.{mul-pos, zero-add, arith}
use Rattle.std.proofs.Math.Nat.{zero-mul}
use Rattle.line.specs.Bounds.{LineBounds}
use Rattle.biomass.specs.Report.{gives}
use Rattle.biomass.specs.Limits.{most_estimated, greatest_carbon}
use Rattle.biomass.specs.Tree.{tree_of, row_biomass, row_low, row_high, row_of}
use Rattle.biomass.specs.SmallTrees.{small_low, small_high}
use Rattle.biomass.specs.Fraction.{Fraction, whole, ◌≼◌}
use Rattle.biomass.specs.Exact.{Given, NotBelow, NotAbove}
use Rattle.biomass.proofs.Law.Fraction.{⊕_mono, whole-⊕}
use Rattle.biomass.proofs.Law.Exact.{row_den, row_not_under, row_not_over}
use Rattle.biomass.proofs.Law.Tree.{RowBounds, none_bounds, row_bounds}
use Rattle.biomass.proofs.Law.SmallTrees.{small_bounds, small_not_under, small_not_over, small_den}
use Rattle.biomass.proofs.Law.Project.{none_or_some}
use Rattle.biomass.specs.Units.{BiomassRange}
use Rattle.biomass.specs.declared.tree.AverageTree.{AverageTree}
use Rattle.line.specs.Line.{Estimate, both_numbers, biomass_of}
use Rattle.line.specs.Exact.{exact_of}

-- what is estimated of a line that closes: steps 4 to 7 answer its measured part where N is above 0, and the small trees are in their ranges
pub record Worked (e : Estimate) : Type 0 where
  pub answered : 0 < e.measured.N → row_biomass e.measured.N e.measured.tree ≡ gives (row_of e.measured.N (tree_of e.measured.tree))
  pub few : e.small.number ≤ most_estimated
  pub light : e.small.carbon ≤ greatest_carbon

module _ (e : Estimate) (worked : Worked e) where
  abbrev N : ℕ
  N = e.measured.N

  abbrev tree : AverageTree
  tree = e.measured.tree

  -- ---- "Not under the low" and "Not over the high", of one line

  module _ (crown_power root_power : Given) where
    pub estimate_not_under : (0 < N → NotBelow tree crown_power root_power) → whole (pos (biomass_of e).low.0) ≼ exact_of e crown_power root_power
    unfolding exact_of
    estimate_not_under below =
        let low = row_low N (tree_of tree) in
        let gained = small_low e.small.number e.small.carbon in
        let small = small_not_under e.small.number e.small.carbon in
        none_or_some (λ (x : Fraction). whole (pos (low + gained)) ≼ x) N _ _
        (λ none. rw (none, zero-mul, zero-add) small)
        (λ some.
        let one = row_not_under N tree _ (worked.answered some) crown_power root_power (below some) in
        rw (← whole-⊕ (pos low) (pos gained)) (⊕_mono one small))

    pub estimate_not_over : (0 < N → NotAbove tree crown_power root_power) → exact_of e crown_power root_power ≼ whole (pos (biomass_of e).high.0)
    unfolding exact_of
    estimate_not_over above =
        let high = row_high N (tree_of tree) in
        let gained = small_high e.small.number e.small.carbon in
        let small = small_not_over e.small.number e.small.carbon in
        none_or_some (λ (x : Fraction). x ≼ whole (pos (high + gained))) N _ _
        (λ none. rw (none, zero-add) small)
        (λ some.
        let one = row_not_over N tree _ (worked.answered some) crown_power root_power (above some) in
        rw (← whole-⊕ (pos high) (pos gained)) (⊕_mono one small))

-- the exact value's denominator is above 0, so that `≼` says of it what it seems to say
pub estimate_den : (e : Estimate) (crown_power root_power : Given) → 0 < (exact_of e crown_power root_power).den
unfolding exact_of
estimate_den e crown_power root_power =
    let small = small_den e.small.number e.small.carbon in
    none_or_some (λ (x : Fraction). 0 < x.den) e.measured.N _ _ (λ none. small)
    (λ some. mul-pos (row_den e.measured.N e.measured.tree crown_power root_power) small)

-- ---- how far apart the ends of a line are, and how great they can be

-- the measured part, of none and of some
measured_bounds : (e : Estimate) → Worked e → RowBounds e.measured.N (row_of e.measured.N (tree_of e.measured.tree))
measured_bounds e worked = by_number e.measured.N worked.answered
  where
    one : BiomassRange
    one = tree_of e.measured.tree

    by_number : (N : ℕ) → (0 < N → row_biomass N e.measured.tree ≡ gives (row_of N one)) → RowBounds N (row_of N one)
    by_number zero answered = none_bounds one
    by_number (suc n) answered = row_bounds (suc n) e.measured.tree _ (answered (omega arith))

pub estimate_bounds : (e : Estimate) → Worked e → LineBounds (both_numbers e) (biomass_of e)
estimate_bounds e worked =
    let measured = measured_bounds e worked in
    let small = small_bounds e.small.number e.small.carbon worked.few worked.light in
    record {
      ordered = omega (arith, measured.ordered, small.ordered);
      near = omega (arith, measured.near, small.near);
      small = omega (arith, measured.small, small.small);
      high_of_none = λ none. omega (arith, measured.high_of_none (omega arith), small.high_of_none (omega arith));
    }
