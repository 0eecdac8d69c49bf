-- Step 7, one tree and one row.
use Rattle.std.specs.Prelude.{ℕ, ◌+◌, ◌*◌, ◌/◌, cond, eqb}
use Rattle.biomass.specs.Whole.{inside}
use Rattle.biomass.specs.Report.{Report, gives, unless, ◌then◌}
use Rattle.biomass.specs.Limits.{most_estimated}
use Rattle.biomass.specs.Ends.{between, range}
use Rattle.biomass.specs.Stem.{stem_ends, stem}
use Rattle.biomass.specs.Crown.{crown_ends, crown}
use Rattle.biomass.specs.Root.{root_ends, root}
use Rattle.biomass.specs.Units.{BiomassRange}
use Rattle.biomass.specs.declared.tree.AverageTree.{AverageTree}

-- all that steps 4 to 6 are worked from: T, d, f, the gravity, and the groups of crown and root
abbrev pub average_tree : ℕ → ℕ → ℕ → ℕ → ℕ → ℕ → AverageTree
average_tree T d f gravity crown_group root_group = record { tariff = T; d = d; factor = f; gravity = gravity; crown = crown_group; root = root_group }

-- "mL and mH are the three lows and the three highs added."
abbrev pub added : BiomassRange → BiomassRange → BiomassRange → BiomassRange
added in_stem in_crown in_root =
    between (in_stem.low.0 + in_crown.low.0 + in_root.low.0) (in_stem.high.0 + in_crown.high.0 + in_root.high.0)

-- of one tree: steps 4 to 6 with no range checked
abbrev pub tree_of : AverageTree → BiomassRange
tree_of t =
    added (range (stem_ends t.tariff t.d t.factor t.gravity)) (range (crown_ends t.crown t.d)) (range (root_ends t.root t.d))

-- with the ranges checked: what one part declines, the tree declines
unfoldable pub tree : AverageTree → Report BiomassRange
tree t =
    stem t.tariff t.d t.factor t.gravity then λ in_stem.
    crown t.crown t.d then λ in_crown.
    root t.root t.d then λ in_root.
    gives (added in_stem in_crown in_root)

-- "Row low = N·mL div 100"
abbrev pub row_low : ℕ → BiomassRange → ℕ
row_low N m = N * m.low.0 / 100

-- "row high = N·mH div 100 + 1, or 0 when N = 0."
abbrev pub row_high : ℕ → BiomassRange → ℕ
row_high N m = cond (eqb N 0) 0 (N * m.high.0 / 100 + 1)

abbrev pub row_of : ℕ → BiomassRange → BiomassRange
row_of N m = between (row_low N m) (row_high N m)

-- "1,000,000 estimated trees a line". m is one tree's biomass
unfoldable pub row_biomass : ℕ → AverageTree → Report BiomassRange
row_biomass N t = unless (inside 0 N most_estimated) 6 (tree t then λ m. gives (row_of N m))
