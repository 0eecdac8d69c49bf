-- What a figure is declined with: "6 for any operand outside its range ..; then 13, tariff only. Nothing else comes back." A report made of checks
-- with such numbers, and of reports that are, declines with no other.
use Rattle.std.specs.Prelude.{ℕ, ◌*◌, ◌/◌, ◌≡◌, refl, Bool, true, false, cond, ◌⊎◌, ℤ, pos, negsuc}
use Rattle.std.proofs.Common.{sym, ap, subst, inl, inr, ⊎_elim}
use Rattle.biomass.specs.Whole.{inside, ◌div◌}
use Rattle.biomass.specs.Report.{Report, refused, gives, unless, when, ◌then◌}
use Rattle.biomass.specs.Limits.{most_measured, most_heights, most_estimated, greatest_area, greatest_carbon}
use Rattle.biomass.specs.Tariff.{tariff_sum, from_one_to_fifty, single_tariff, line_tariff}
use Rattle.biomass.specs.Mean.{mean, mean_of, d_in_range}
use Rattle.biomass.specs.Trees.{trees, trees_of}
use Rattle.biomass.specs.Ends.{range}
use Rattle.biomass.specs.Stem.{stem, stem_ends}
use Rattle.biomass.specs.Crown.{crown, crown_ends}
use Rattle.biomass.specs.Root.{root, root_ends}
use Rattle.biomass.specs.Tree.{tree, added, row_biomass, row_of}
use Rattle.biomass.specs.SmallTrees.{small_of, small_trees}
use Rattle.biomass.proofs.Law.Gives.{never, number_is}
use Rattle.biomass.specs.declared.tree.AverageTree.{AverageTree}

-- every number that a report is refused with is such a number
abbrev pub Declines : {A : Type 0} → (ℕ → Type 0) → Report A → Type 0
Declines such r = (n : ℕ) → r ≡ refused n → such n

abbrev pub Six : ℕ → Type 0
Six n = n ≡ 6

abbrev pub SixOrThirteen : ℕ → Type 0
SixOrThirteen n = (n ≡ 6) ⊎ (n ≡ 13)

module _ {A : Type 0} (such : ℕ → Type 0) where
  pub gives_declines : (a : A) → Declines such (gives a)
  gives_declines a n e = never (sym e)

  -- the number of a check is told where its test fails, and those of the rest where it holds
  pub unless_declines : (test : Bool) (k : ℕ) (rest : Report A) →
      (test ≡ false → such k) → (test ≡ true → Declines such rest) → Declines such (unless test k rest)
  unless_declines true k rest this others n e = others refl n e
  unless_declines false k rest this others n e = subst such (number_is e) (this refl)

  pub when_declines : (test : Bool) (k : ℕ) (rest : Report A) →
      (test ≡ true → such k) → (test ≡ false → Declines such rest) → Declines such (when test k rest)
  when_declines true k rest this others n e = subst such (number_is e) (this refl)
  when_declines false k rest this others n e = others refl n e

  pub cond_declines : (test : Bool) (r q : Report A) → Declines such r → Declines such q → Declines such (cond test r q)
  cond_declines true r q this other = this
  cond_declines false r q this other = other

  pub then_declines : {B : Type 0} (first : Report B) (next_of : B → Report A) →
      Declines such first → ((b : B) → Declines such (next_of b)) → Declines such (first then next_of)
  then_declines (refused k) next_of this others n e = this n (ap refused (number_is e))
  then_declines (gives b) next_of this others n e = others b n e

  -- what is declined with 6 alone, or with 6 and 13, among other numbers
  pub six_declines : {r : Report A} → such 6 → Declines Six r → Declines such r
  six_declines six declines n e = subst such (sym (declines n e)) six

  pub six_or_thirteen_declines : {r : Report A} → such 6 → such 13 → Declines SixOrThirteen r → Declines such r
  six_or_thirteen_declines six thirteen declines n e =
      ⊎_elim (λ is_six. subst such (sym is_six) six) (λ is_thirteen. subst such (sym is_thirteen) thirteen) (declines n e)

pub ruleset declined = (when_declines, unless_declines, cond_declines, then_declines, gives_declines)

-- a check with the number 6 before a report that declines with 6 alone
six : {A : Type 0} (test : Bool) (rest : Report A) → Declines Six rest → Declines Six (unless test 6 rest)
six test rest declines = unless_declines Six test 6 rest (λ fails. refl) (λ holds. declines)

-- ---- the tariffs

fifty_declines : (t : ℤ) → Declines SixOrThirteen (from_one_to_fifty t)
fifty_declines (pos t) n e =
    unless_declines SixOrThirteen (inside 1 t 50) 13 (gives t) (λ fails. inr refl) (λ holds. gives_declines SixOrThirteen t) n e
fifty_declines (negsuc t) n e = inr (sym (number_is e))

pub single_tariff_declines : (c1 c2 c3 c4 : ℤ) (D h : ℕ) → Declines SixOrThirteen (single_tariff c1 c2 c3 c4 D h)
unfolding single_tariff
single_tariff_declines c1 c2 c3 c4 D h =
    unless_declines SixOrThirteen (inside 10 D 100) 6 _ (λ fails. inl refl) (λ in_D.
    unless_declines SixOrThirteen (inside 1 h 600) 6 _ (λ fails. inl refl) (λ in_h.
    fifty_declines (tariff_sum c1 c2 c3 c4 D h div 100000000)))

pub line_tariff_declines : (sum number : ℕ) → Declines Six (line_tariff sum number)
unfolding line_tariff
line_tariff_declines sum number =
    six (inside 1 number most_heights) _ (six (inside number sum (50 * number)) _ (gives_declines Six (sum / number)))

-- ---- the other figures

pub mean_declines : (n S : ℕ) → Declines Six (mean n S)
unfolding mean
mean_declines n S = six (inside 1 n most_measured) _ (six (inside (49 * n) S (10000 * n)) _ (gives_declines Six (mean_of n S)))

pub trees_declines : (n p q : ℕ) → Declines Six (trees n p q)
unfolding trees
trees_declines n p q =
    six (inside 0 n most_measured) _ (six (inside 1 p greatest_area) _ (six (inside 1 q greatest_area) _ (gives_declines Six (trees_of n p q))))

pub stem_declines : (T d f s : ℕ) → Declines Six (stem T d f s)
unfolding stem
stem_declines T d f s =
    six (inside 1 T 50) _ (six (d_in_range d) _ (six (inside 100 f 200) _ (six (inside 1 s 100) _ (gives_declines Six (range (stem_ends T d f s))))))

pub crown_declines : (g d : ℕ) → Declines Six (crown g d)
unfolding crown
crown_declines g d = six (inside 0 g 7) _ (six (d_in_range d) _ (gives_declines Six (range (crown_ends g d))))

pub root_declines : (g d : ℕ) → Declines Six (root g d)
unfolding root
root_declines g d = six (inside 0 g 5) _ (six (d_in_range d) _ (gives_declines Six (range (root_ends g d))))

pub tree_declines : (t : AverageTree) → Declines Six (tree t)
unfolding tree
tree_declines t =
    then_declines Six (stem t.tariff t.d t.factor t.gravity) _ (stem_declines t.tariff t.d t.factor t.gravity) (λ in_stem.
    then_declines Six (crown t.crown t.d) _ (crown_declines t.crown t.d) (λ in_crown.
    then_declines Six (root t.root t.d) _ (root_declines t.root t.d) (λ in_root.
    gives_declines Six (added in_stem in_crown in_root))))

pub row_declines : (N : ℕ) (t : AverageTree) → Declines Six (row_biomass N t)
unfolding row_biomass
row_declines N t = six (inside 0 N most_estimated) _ (then_declines Six (tree t) _ (tree_declines t) (λ m. gives_declines Six (row_of N m)))

pub small_declines : (number carbon : ℕ) → Declines Six (small_trees number carbon)
unfolding small_trees
small_declines number carbon = six (inside 0 number most_estimated) _ (six (inside 1 carbon greatest_carbon) _ (gives_declines Six (small_of number carbon)))
