-- Laws of one tree and one row that are answered: their operands are in range, and their ends are near each other and fit 64 bits.
use Rattle.std.specs.Prelude.{ℕ, zero, suc, ◌+◌, ◌*◌, ◌≤◌, ◌≡◌}
use Rattle.std.proofs.Common.{mul-le-mul, mul-le-mul_left, arith, sym, subst}
use Rattle.std.proofs.Math.Dec.{eqb-suc-zero}
use Rattle.biomass.specs.Report.{gives}
use Rattle.powers.specs.Diameter.{least_d, greatest_d}
use Rattle.biomass.specs.Limits.{most_estimated}
use Rattle.biomass.specs.Stem.{stem, stem_ends}
use Rattle.biomass.specs.Crown.{crown, crown_ends}
use Rattle.biomass.specs.Root.{root, root_ends}
use Rattle.biomass.specs.Tree.{tree_of, tree, row_biomass, row_high, row_of}
use Rattle.biomass.specs.Bounds.{Inside, greatest_crown, greatest_root, greatest_row, greatest_stem, greatest_tree}
use Rattle.biomass.proofs.Law.Gives.{passed, made}
use Rattle.biomass.proofs.Law.Ends.{Bounded}
use Rattle.biomass.proofs.Law.Stem.{stem_bounded}
use Rattle.biomass.proofs.Law.Crown.{crown_bounded}
use Rattle.biomass.proofs.Law.Root.{root_bounded}
use Rattle.biomass.specs.Units.{BiomassRange}
use Rattle.biomass.specs.declared.tree.AverageTree.{AverageTree}

-- ---- one tree

-- All that a tree is worked from, in its ranges
pub record Operands (t : AverageTree) : Type 0 where
  pub tariff : Inside 1 t.tariff 50
  pub d : Inside least_d t.d greatest_d
  pub factor : Inside 100 t.factor 200
  pub gravity : Inside 1 t.gravity 100
  pub crown : Inside 0 t.crown 7
  pub root : Inside 0 t.root 5

-- A tree is answered where its operands are in their ranges (Law.Answers), and only there
pub record TreeGives (t : AverageTree) (m : BiomassRange) : Type 0 where
  pub operands : Operands t
  pub is : m ≡ tree_of t

pub tree_gives : (t : AverageTree) (m : BiomassRange) → tree t ≡ gives m → TreeGives t m
unfolding tree stem crown root
tree_gives t m e =
    let on_stem = made (stem t.tariff t.d t.factor t.gravity) _ e in
    let on_crown = made (crown t.crown t.d) _ on_stem.next in
    let on_root = made (root t.root t.d) _ on_crown.next in
    let tariff = passed 1 t.tariff 50 6 _ on_stem.gave in
    let d = passed least_d t.d greatest_d 6 _ tariff.next in
    let factor = passed 100 t.factor 200 6 _ d.next in
    let gravity = passed 1 t.gravity 100 6 _ factor.next in
    let crown_group_lem = passed 0 t.crown 7 6 _ on_crown.gave in
    let crown_d = passed least_d t.d greatest_d 6 _ crown_group_lem.next in
    let root_group_lem = passed 0 t.root 5 6 _ on_root.gave in
    let root_d = passed least_d t.d greatest_d 6 _ root_group_lem.next in
    record {
      operands =
          record {
            tariff = tariff.in_range;
            d = d.in_range;
            factor = factor.in_range;
            gravity = gravity.in_range;
            crown = crown_group_lem.in_range;
            root = root_group_lem.in_range;
          };
      is = cc;
    }

-- So the ends of its parts are bounded
pub record PartsBounded (t : AverageTree) : Type 0 where
  pub on_stem : Bounded (stem_ends t.tariff t.d t.factor t.gravity) 50 greatest_stem
  pub on_crown : Bounded (crown_ends t.crown t.d) 2 greatest_crown
  pub on_root : Bounded (root_ends t.root t.d) 2 greatest_root

pub parts_bounded : {t : AverageTree} → Operands t → PartsBounded t
parts_bounded {t} g =
    record {
      on_stem =
          stem_bounded t.tariff t.d t.factor t.gravity
          g.tariff.least g.tariff.most g.d.least g.d.most g.factor.most g.gravity.most;
      on_crown = crown_bounded t.crown t.d g.crown.most g.d.most;
      on_root = root_bounded t.root t.d g.root.most g.d.most;
    }

-- The stem's ends are at most 50 mg apart, the crown's and the root's 2 each
pub record TreeBounds (m : BiomassRange) : Type 0 where
  pub ordered : m.low.0 ≤ m.high.0
  pub near : m.high.0 ≤ m.low.0 + 54
  pub small : m.high.0 ≤ greatest_tree

pub tree_bounds : (t : AverageTree) (m : BiomassRange) → tree t ≡ gives m → TreeBounds m
tree_bounds t m e =
    let g = tree_gives t m e in
    let b = parts_bounded g.operands in
    subst TreeBounds (sym g.is) (omega arith)

-- ---- one row

-- The number of trees is in its range, and the row is made of what one tree gives
pub record RowGives (N : ℕ) (t : AverageTree) (m : BiomassRange) : Type 0 where
  pub number : Inside 0 N most_estimated
  pub one : BiomassRange
  pub one_is : tree t ≡ gives one
  pub is : m ≡ row_of N one

pub row_gives : (N : ℕ) (t : AverageTree) (m : BiomassRange) → row_biomass N t ≡ gives m → RowGives N t m
unfolding row_biomass
row_gives N t m e =
    let number = passed 0 N most_estimated 6 _ e in
    let on_tree = made (tree t) _ number.next in
    record { number = number.in_range; one = on_tree.figure; one_is = on_tree.gave; is = cc }

-- A row's high, whatever number of trees its low is worked from
pub high_small : (N : ℕ) (one : BiomassRange) → N ≤ most_estimated → one.high.0 ≤ greatest_tree → row_high N one ≤ greatest_row
high_small zero one h k = omega arith
high_small (suc n) one h k = rw (eqb-suc-zero n) (omega (arith, mul-le-mul h k))

-- N hundredths of a tree's ends: 54 mg for each tree apart, and 2 mg for the two divisions
pub record RowBounds (N : ℕ) (m : BiomassRange) : Type 0 where
  pub ordered : m.low.0 ≤ m.high.0
  pub near : 100 * m.high.0 ≤ 100 * m.low.0 + 54 * N + 200
  pub small : m.high.0 ≤ greatest_row
  pub low_of_none : N ≡ 0 → m.low.0 ≡ 0
  pub high_of_none : N ≡ 0 → m.high.0 ≡ 0

of_tree : (N : ℕ) (one : BiomassRange) → N ≤ most_estimated → TreeBounds one → RowBounds N (row_of N one)
of_tree zero one h b = omega arith
of_tree (suc n) one h b =
    let ordered : suc n * one.low.0 ≤ suc n * one.high.0 = mul-le-mul_left (suc n) b.ordered in
    let near : suc n * one.high.0 ≤ suc n * (one.low.0 + 54) = mul-le-mul_left (suc n) b.near in
    let small = rw (eqb-suc-zero n) at (high_small (suc n) one h b.small) in
    rw (eqb-suc-zero n) (omega arith)

-- of no trees, whatever one would be
pub none_bounds : (one : BiomassRange) → RowBounds 0 (row_of 0 one)
none_bounds one = omega arith

pub row_bounds : (N : ℕ) (t : AverageTree) (m : BiomassRange) → row_biomass N t ≡ gives m → RowBounds N m
row_bounds N t m e =
    let g = row_gives N t m e in
    subst (RowBounds N) (sym g.is) (of_tree N g.one g.number.most (tree_bounds t g.one g.one_is))
