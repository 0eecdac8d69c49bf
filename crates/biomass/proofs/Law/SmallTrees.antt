-- Laws of a line's small trees (document 02, Q-1): their exact biomass lies from the low to the high, which are at most 1 mg apart and fit 64 bits.
use Rattle.std.specs.Prelude.{ℕ, zero, suc, ◌+◌, ◌*◌, ◌≤◌, ◌<◌, ◌≡◌, pos}
use Rattle.std.proofs.Common.{mul-le-mul, mul-le-mul_left, zero-mul, arith, subst, lit<}
use Rattle.std.proofs.Math.Dec.{eqb-suc-zero}
use Rattle.biomass.specs.Bounds.{greatest_small}
use Rattle.biomass.specs.Limits.{most_estimated, greatest_carbon}
use Rattle.biomass.specs.Report.{gives}
use Rattle.biomass.specs.SmallTrees.{small_low, small_high, small_of, small_trees}
use Rattle.biomass.specs.Fraction.{whole, ◌≼◌}
use Rattle.biomass.specs.Exact.{exact_small}
use Rattle.biomass.proofs.Law.Fraction.{≼_refl, share_not_under, share_not_over, no_share}
use Rattle.biomass.proofs.Law.Gives.{passed, figure_is}
use Rattle.biomass.proofs.Law.Project.{none_or_some}
use Rattle.biomass.specs.Units.{BiomassRange}

module _ (number carbon : ℕ) where
  -- "Not over the high", also where there are none and no 1 is added
  pub small_not_over : exact_small number carbon ≼ whole (pos (small_high number carbon))
  small_not_over =
      none_or_some (λ (high : ℕ). exact_small number carbon ≼ whole (pos high)) number _ _
      (λ none. rw none (simp zero-mul (simp zero-mul at (no_share 100 (whole (pos (2 * carbon)))))))
      (λ some. share_not_over number 100 (2 * carbon) (lit< tt) (≼_refl (whole (pos (2 * carbon)))))

  -- "Not under the low"
  pub small_not_under : whole (pos (small_low number carbon)) ≼ exact_small number carbon
  small_not_under = share_not_under number 100 (2 * carbon) (lit< tt) (≼_refl (whole (pos (2 * carbon))))

  pub small_den : 0 < (exact_small number carbon).den
  small_den = lit< tt

-- how far apart the ends are, and how great they can be
pub record SmallBounds (number : ℕ) (m : BiomassRange) : Type 0 where
  pub ordered : m.low.0 ≤ m.high.0
  pub near : m.high.0 ≤ m.low.0 + 1
  pub small : m.high.0 ≤ greatest_small
  pub high_of_none : number ≡ 0 → m.high.0 ≡ 0

pub small_bounds : (number carbon : ℕ) → number ≤ most_estimated → carbon ≤ greatest_carbon → SmallBounds number (small_of number carbon)
small_bounds zero carbon few most = omega arith
small_bounds (suc n) carbon few most = rw (eqb-suc-zero n) (omega (arith, mul-le-mul few (mul-le-mul_left 2 most)))

-- and so of what is answered
pub small_trees_bounds : (number carbon : ℕ) (m : BiomassRange) → small_trees number carbon ≡ gives m → SmallBounds number m
unfolding small_trees
small_trees_bounds number carbon m e =
    let few = passed 0 number most_estimated 6 _ e in
    let light = passed 1 carbon greatest_carbon 6 _ few.next in
    subst (SmallBounds number) (figure_is light.next) (small_bounds number carbon few.in_range.most light.in_range.most)
