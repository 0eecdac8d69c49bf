-- Operands that are in their ranges are answered, and with what: so the layer above, which keeps them there, is not declined.
-- (What an answered figure says of its operands is the other half: Gives, Tariff, Mean and Tree.)
use Rattle.std.specs.Prelude.{ℕ, ◌*◌, ◌/◌, ◌≡◌, Bool}
use Rattle.std.proofs.Common.{◌∙◌, ap}
use Rattle.biomass.specs.Bounds.{Inside}
use Rattle.biomass.specs.Whole.{inside}
use Rattle.biomass.specs.Report.{Report, gives, unless, ◌then◌}
use Rattle.powers.specs.Diameter.{least_d, greatest_d}
use Rattle.biomass.specs.Limits.{most_measured, most_heights, most_estimated, greatest_area, greatest_carbon}
use Rattle.biomass.specs.Tariff.{line_tariff}
use Rattle.biomass.specs.Mean.{mean, mean_of}
use Rattle.biomass.specs.Trees.{trees, trees_of}
use Rattle.biomass.specs.Ends.{range}
use Rattle.biomass.specs.Stem.{stem, stem_ends}
use Rattle.biomass.specs.Crown.{crown, crown_ends}
use Rattle.biomass.specs.Root.{root, root_ends}
use Rattle.biomass.specs.Tree.{tree_of, tree, row_biomass, row_of}
use Rattle.biomass.specs.SmallTrees.{small_of, small_trees}
use Rattle.biomass.specs.Project.{project, project_of, greatest_sum}
use Rattle.biomass.proofs.Law.Report.{true_inside}
use Rattle.biomass.proofs.Law.Tree.{Operands}
use Rattle.biomass.specs.Units.{BiomassRange}
use Rattle.biomass.specs.declared.tree.AverageTree.{AverageTree}

-- one check that is passed
open_to : {A : Type 0} {lo x hi : ℕ} (n : ℕ) (next : Report A) → Inside lo x hi → unless (inside lo x hi) n next ≡ next
open_to {lo} {x} {hi} n next i = ap (λ (test : Bool). unless test n next) (true_inside lo x hi i.least i.most)

pub line_tariff_answers : (sum number : ℕ) → Inside 1 number most_heights → Inside number sum (50 * number) → line_tariff sum number ≡ gives (sum / number)
unfolding line_tariff
line_tariff_answers sum number n s = open_to 6 _ n ∙ open_to 6 _ s

pub mean_answers : (n S : ℕ) → Inside 1 n most_measured → Inside (49 * n) S (10000 * n) → mean n S ≡ gives (mean_of n S)
unfolding mean
mean_answers n S t s = open_to 6 _ t ∙ open_to 6 _ s

pub trees_answers : (n p q : ℕ) → Inside 0 n most_measured → Inside 1 p greatest_area → Inside 1 q greatest_area → trees n p q ≡ gives (trees_of n p q)
unfolding trees
trees_answers n p q t a b = open_to 6 _ t ∙ open_to 6 _ a ∙ open_to 6 _ b

-- the three parts, and one tree
pub stem_answers : (T d f s : ℕ) → Inside 1 T 50 → Inside least_d d greatest_d → Inside 100 f 200 → Inside 1 s 100 → stem T d f s ≡ gives (range (stem_ends T d f s))
unfolding stem
stem_answers T d f s t e a b = open_to 6 _ t ∙ open_to 6 _ e ∙ open_to 6 _ a ∙ open_to 6 _ b

pub crown_answers : (g d : ℕ) → Inside 0 g 7 → Inside least_d d greatest_d → crown g d ≡ gives (range (crown_ends g d))
unfolding crown
crown_answers g d a e = open_to 6 _ a ∙ open_to 6 _ e

pub root_answers : (g d : ℕ) → Inside 0 g 5 → Inside least_d d greatest_d → root g d ≡ gives (range (root_ends g d))
unfolding root
root_answers g d a e = open_to 6 _ a ∙ open_to 6 _ e

pub tree_answers : (t : AverageTree) → Operands t → tree t ≡ gives (tree_of t)
unfolding tree
tree_answers t o =
    rw (
      stem_answers t.tariff t.d t.factor t.gravity o.tariff o.d o.factor o.gravity,
      crown_answers t.crown t.d o.crown o.d,
      root_answers t.root t.d o.root o.d,
    )

pub row_answers : (N : ℕ) (t : AverageTree) → Inside 0 N most_estimated → Operands t → row_biomass N t ≡ gives (row_of N (tree_of t))
unfolding row_biomass
row_answers N t n o = open_to 6 _ n ∙ ap (λ (r : Report BiomassRange). r then (λ m. gives (row_of N m))) (tree_answers t o)

pub small_answers : (number carbon : ℕ) → Inside 0 number most_estimated → Inside 1 carbon greatest_carbon → small_trees number carbon ≡ gives (small_of number carbon)
unfolding small_trees
small_answers number carbon n c = open_to 6 _ n ∙ open_to 6 _ c

pub project_answers : (sums : BiomassRange) (N : ℕ) → Inside 0 sums.low.0 greatest_sum → Inside 0 sums.high.0 greatest_sum → project sums N ≡ gives (project_of sums N)
unfolding project
project_answers sums N l h = open_to 6 _ l ∙ open_to 6 _ h
