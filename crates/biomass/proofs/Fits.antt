-- Why what a tree and a row add and multiply fits 64 bits: what is answered of a tree is at most the greatest tree, and of the number of trees the greatest number.
use Rattle.std.specs.Prelude.{ℕ, ◌+◌, ◌*◌, ◌^◌, ◌≤◌, ◌<◌, ◌≡◌, refl}
use Rattle.std.proofs.Common.{sym, mul-le-mul, le_trans, lt_of_le_of_lt, lit<, pow-suc, arith}
use Rattle.powers.specs.Diameter.{root_limit}
use Rattle.powers.proofs.Law.Greatest.{pow_two}
use Rattle.powers.proofs.Law.Crown.{tabled_is_w}
use Rattle.biomass.specs.Report.{gives}
use Rattle.biomass.specs.Limits.{most_estimated}
use Rattle.biomass.specs.Stem.{stem}
use Rattle.biomass.specs.Crown.{crown}
use Rattle.biomass.specs.Root.{root}
use Rattle.biomass.specs.Tree.{average_tree, tree, added}
use Rattle.biomass.specs.Bounds.{greatest_tree}
use Rattle.biomass.proofs.Law.Report.{follows}
use Rattle.biomass.proofs.Law.Power.{w_most, y_most}
use Rattle.biomass.proofs.Law.Tree.{TreeBounds, tree_bounds}
use Rattle.biomass.specs.Units.{BiomassRange}
use Rattle.biomass.specs.declared.tree.AverageTree.{AverageTree}

-- the crown power of a diameter on the curve
pub ruleset crown_power_fits = (tabled_is_w, w_most)

-- and the root power
module _ {d : ℕ} (h : d ≤ root_limit) where
  pub fourth : d * d * d * d ≤ root_limit ^ 4
  fourth = mul-le-mul (mul-le-mul (mul-le-mul h h) h) h

  pub fifth : d * d * d * d * d ≤ root_limit ^ 5
  fifth = mul-le-mul fourth h

pub fifth_power : (d : ℕ) → d * d * d * d * d ≡ d ^ 5
fifth_power d = rw (pow-suc, pow-suc, pow-suc, pow_two)

pub ruleset root_power_fits = (fourth, fifth, fifth_power, y_most)

-- where all three parts give a range
module _ {s c r : BiomassRange} (T d f g crowns roots : ℕ)
    (is_s : gives s ≡ stem T d f g) (is_c : gives c ≡ crown crowns d) (is_r : gives r ≡ root roots d) where
  tree_is : gives (added s c r) ≡ tree (average_tree T d f g crowns roots)
  unfolding tree
  tree_is = follows _ _ (sym is_s) (follows _ _ (sym is_c) (follows _ _ (sym is_r) refl))

  bounds : TreeBounds (added s c r)
  bounds = tree_bounds _ _ (sym tree_is)

  pub lows_fit : s.low.0 + c.low.0 + r.low.0 ≤ greatest_tree
  lows_fit = omega (arith, bounds)

  pub highs_fit : s.high.0 + c.high.0 + r.high.0 ≤ greatest_tree
  highs_fit = omega (arith, bounds)

pub ruleset tree_fits = (lows_fit, highs_fit)

-- where the tree gives a range
module _ {N : ℕ} {m : BiomassRange} (t : AverageTree) (few : N ≤ most_estimated) (is : gives m ≡ tree t) where
  one : TreeBounds m
  one = tree_bounds t m (sym is)

  pub low_fits : N * m.low.0 < 2 ^ 64
  low_fits = lt_of_le_of_lt (mul-le-mul few (le_trans one.ordered one.small)) (lit< tt)

  pub high_fits : N * m.high.0 < 2 ^ 64
  high_fits = lt_of_le_of_lt (mul-le-mul few one.small) (lit< tt)

pub ruleset row_fits = (low_fits, high_fits)
