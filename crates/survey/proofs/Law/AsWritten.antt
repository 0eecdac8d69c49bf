-- On a valid survey a command does just what the papers' text says: the checks that the definitions have besides never fail there, since what
-- a valid line holds is in the ranges of the figures that are worked from it.
use Rattle.std.specs.Prelude.{ℕ, zero, suc, ◌+◌, ◌*◌, ◌≤◌, ◌<◌, ◌≡◌, refl, Bool, true, false, List, Option, Some, unwrap_or, leb, eqb}
use Rattle.std.proofs.Common.{zero-le, mul-le-mul, mul-le-mul_left, zero-mul, zero-add, add-zero, arith, ◌∙◌, sym, subst}
use Rattle.std.proofs.Math.Path.{ap}
use Rattle.std.proofs.Math.Bool.{cond}
use borrow.Author.Tests.{leb-true, le-leb, lt-leb, eqb-false}
use Rattle.biomass.specs.Bounds.{Inside}
use Rattle.biomass.specs.Whole.{inside}
use Rattle.biomass.specs.Report.{Report, gives, unless, when, ◌then◌, given}
use Rattle.biomass.specs.Limits.{most_measured, most_heights, most_estimated, most_small, greatest_carbon}
use Rattle.biomass.specs.Tariff.{line_tariff}
use Rattle.biomass.specs.Mean.{mean}
use Rattle.biomass.specs.Trees.{trees_of, trees}
use Rattle.biomass.specs.Ends.{between}
use Rattle.biomass.specs.Tree.{tree_of, row_biomass, row_of}
use Rattle.biomass.specs.SmallTrees.{small_of}
use Rattle.biomass.proofs.Law.Report.{inside_true}
use Rattle.biomass.proofs.Law.Tariff.{line_tariff_range}
use Rattle.biomass.proofs.Law.Mean.{mean_range}
use Rattle.biomass.proofs.Law.Trees.{none_made}
use Rattle.biomass.proofs.Law.Tree.{Operands}
use Rattle.biomass.proofs.Law.Answers.{mean_answers, trees_answers, line_tariff_answers, row_answers, small_answers}
use Rattle.biomass.proofs.Law.Project.{none_or_some}
use Rattle.line.specs.Line.{tallied, T_of, d_of, N_of, small_number_of, whole_cm, factor_for, tree_with, MeasuredPart, small_part, no_measured, gaining, row_with, estimated_row, empty_row}
use Rattle.survey.specs.Survey.{with_row, measure, give_height, tree_at, some_measured, measured_at, estimate, closing_row, close_small, close}
use Rattle.rules.specs.Checks.{most_lines}
use Rattle.survey.specs.AsWritten.{as_written}
use Rattle.survey.specs.Apply.{apply_measured, apply_height, apply_close, apply}
use Rattle.line.specs.AnyLine.{most_squares, most_tariffs, add_trees, add_height, scaled, row_gaining, worked, some_row, small_row, line_row}
use Rattle.survey.proofs.Law.Checks.{given_same, given_then}
use Rattle.survey.specs.Valid.{ValidSpecies, ValidTally, ValidHeights, ValidSmall, Valid}
use Rattle.codec.specs.declared.command.Command.{Command}
use Rattle.line.specs.declared.row.Row.{Row}
use Rattle.line.specs.declared.line.Tally.{Tally}
use Rattle.line.specs.declared.line.Heights.{Heights}
use Rattle.line.specs.declared.line.Line.{Line}
use Rattle.biomass.specs.Units.{BiomassRange}
use Rattle.biomass.proofs.Law.SameChecks.{when_same, unless_same, when_then, unless_then, cond_then, then_then, passed_then, answered_then}
use Rattle.survey.specs.declared.survey.Survey.{Survey}

-- ---- measured trees and height trees

-- each tree measured adds from 7² to 100² to S
pub tallied_valid : (t : Tally) (class count : ℕ) → ValidTally t → Inside 7 class 100 → t.n + count ≤ most_measured → ValidTally (tallied class count t)
tallied_valid t class count before in_class few =
    let least : count * (7 * 7) ≤ count * (class * class) = mul-le-mul_left count (mul-le-mul in_class.least in_class.least) in
    let most : count * (class * class) ≤ count * (100 * 100) = mul-le-mul_left count (mul-le-mul in_class.most in_class.most) in
    record { few = few; squares = omega (arith, before.squares) }

-- so that S is within what the most trees come to
squares_within : (s : Survey) (l : Line) → Valid s → s.line ≡ Some l → leb l.tally.squares most_squares ≡ true
squares_within s l v is_open =
    let tally = (v.line l is_open).tally in
    let most : l.tally.squares ≤ most_squares = omega (arith, tally.few, tally.squares) in
    le-leb _ _ most

-- each height tree adds from 1 to 50 to the tariffs
pub heights_valid : (h : Heights) (T : ℕ) → ValidHeights h → Inside 1 T 50 → h.number < most_heights
    → ValidHeights (record { number = h.number + 1; tariffs = h.tariffs + T })
heights_valid h T before T_range room = omega (arith, before.tariffs)

tariffs_within : (s : Survey) (l : Line) → Valid s → s.line ≡ Some l → leb l.heights.tariffs most_tariffs ≡ true
tariffs_within s l v is_open =
    let heights = (v.line l is_open).heights in
    let most : l.heights.tariffs ≤ most_tariffs = omega (arith, heights.few, heights.tariffs) in
    le-leb _ _ most

-- ---- small trees

pub small_given_lem : (carbon count : ℕ) → inside 1 carbon greatest_carbon ≡ true → inside 1 count most_small ≡ true
    → ValidSmall (record { carbon = carbon; count = count })
small_given_lem carbon count in_carbon in_count =
    let c = inside_true 1 carbon greatest_carbon in_carbon in
    record { few = (inside_true 1 count most_small in_count).most; some = λ _. c.least; light = c.most }

-- where small trees are estimated some were counted
pub some_counted : (l : Line) → 1 ≤ l.q → 0 < small_number_of l → 0 < l.small.count
some_counted l plots some = by_count l.small.count some
  where
    by_count : (count : ℕ) → 0 < trees_of count l.p l.q → 0 < count
    by_count zero h = omega (arith, none_made l.p l.q plots)
    by_count (suc count) h = omega arith

-- and none add nothing
nothing_gained : (m : BiomassRange) (carbon : ℕ) → m ≡ gaining m (small_of 0 carbon)
nothing_gained m carbon = simp (zero-mul, add-zero)

-- ---- what is estimated of a line, by whether it has measured trees

module _ (factors : List (Option ℕ)) (l : Line) where
  pub measured_by : {test : Bool} → eqb l.tally.n 0 ≡ test → measured_at factors l ≡ cond test no_measured (some_measured factors l)
  unfolding measured_at
  measured_by = ap (λ (test : Bool). cond test no_measured (some_measured factors l))

  -- its row, with what the measured part is known to be
  row_by : {part : MeasuredPart} → measured_at factors l ≡ part
      → closing_row factors l ≡ estimated_row l (record { measured = part; small = small_part l })
  unfolding closing_row estimate
  row_by = ap (λ (part : MeasuredPart). estimated_row l (record { measured = part; small = small_part l }))

  -- "A line with n = 0 closes with tariff, d, N, low and high all 0", where it has no small trees
  pub row_of_none : 1 ≤ l.q → eqb l.tally.n 0 ≡ true → l.small.count ≡ 0 → closing_row factors l ≡ empty_row l
  row_of_none plots none uncounted =
      let nothing : small_number_of l ≡ 0 = ap (λ (count : ℕ). trees_of count l.p l.q) uncounted ∙ none_made l.p l.q plots in
      row_by (measured_by none)
      ∙ ap (λ (number : ℕ). estimated_row l (record { measured = no_measured; small = record { number = number; carbon = l.small.carbon } })) nothing
      ∙ simp zero-mul

  -- its tree, where the factor is known
  pub tree_is : {f : ℕ} → factor_for factors (d_of l) ≡ Some f → tree_at factors l ≡ tree_with l.species (T_of l) (d_of l) f
  tree_is = ap (λ (o : Option ℕ). tree_with l.species (T_of l) (d_of l) (unwrap_or o 0))

-- ---- closing

-- all that the tree of a valid survey's open line is worked from, in its ranges, where the line has measured trees, a height tree and a factor
pub line_operands : (s : Survey) (l : Line) (f : ℕ) → Valid s → s.line ≡ Some l → 1 ≤ l.tally.n → 1 ≤ l.heights.number
    → factor_for s.factors (d_of l) ≡ Some f → Operands (tree_at s.factors l)
line_operands s l f v is_open trees heights factor =
    let vl = v.line l is_open in
    let T_is = line_tariff_answers l.heights.tariffs l.heights.number (record { least = heights; most = vl.heights.few }) vl.heights.tariffs in
    let species : ValidSpecies l.species = v.species l.id l.species vl.species in
    subst Operands (sym (tree_is s.factors l factor)) (record {
      tariff = line_tariff_range l.heights.tariffs l.heights.number (T_of l) T_is;
      d = mean_range l.tally.n l.tally.squares (record { least = trees; most = vl.tally.few }) vl.tally.squares;
      factor = (v.factors (whole_cm (d_of l)) f factor).hundredths;
      gravity = species.gravity;
      crown = species.crown;
      root = species.root;
    })

pub not_zero : (n : ℕ) → eqb n 0 ≡ false → 1 ≤ n
not_zero n e = let other = eqb-false n 0 e in omega arith

-- where a line is open, step 3 answers, of the measured count and of the small one; where it has measured trees, step 2; with a height tree, step 1; and with a
-- factor and few enough trees, steps 4 to 7
module _ (s : Survey) (l : Line) (v : Valid s) (is_open : s.line ≡ Some l) where
  n_answered : trees l.tally.n l.p l.q ≡ gives (N_of l)
  n_answered =
      let vl = v.line l is_open in
      trees_answers l.tally.n l.p l.q (record { least = zero-le; most = vl.tally.few }) vl.p vl.q

  count_answered : trees l.small.count l.p l.q ≡ gives (small_number_of l)
  count_answered =
      let vl = v.line l is_open in
      trees_answers l.small.count l.p l.q (record { least = zero-le; most = vl.small.few }) vl.p vl.q

  module _ (some : eqb l.tally.n 0 ≡ false) where
    n_range : Inside 1 l.tally.n most_measured
    n_range = record { least = not_zero l.tally.n some; most = (v.line l is_open).tally.few }

    mean_known : mean l.tally.n l.tally.squares ≡ gives (d_of l)
    mean_known = mean_answers l.tally.n l.tally.squares n_range (v.line l is_open).tally.squares

    module _ (heights : eqb l.heights.number 0 ≡ false) where
      tariff_known : line_tariff l.heights.tariffs l.heights.number ≡ gives (T_of l)
      tariff_known =
          let vl = v.line l is_open in
          line_tariff_answers l.heights.tariffs l.heights.number
          (record { least = not_zero l.heights.number heights; most = vl.heights.few }) vl.heights.tariffs

      row_known : (f : ℕ) → factor_for s.factors (d_of l) ≡ Some f → leb (N_of l) most_estimated ≡ true
          → row_biomass (N_of l) (tree_with l.species (T_of l) (d_of l) f) ≡ gives (row_of (N_of l) (tree_of (tree_at s.factors l)))
      row_known f factor small =
          ap (row_biomass (N_of l)) (sym (tree_is s.factors l factor))
          ∙ row_answers (N_of l) (tree_at s.factors l) (record { least = zero-le; most = leb-true _ _ small })
          (line_operands s l f v is_open n_range.least (not_zero l.heights.number heights) factor)

  -- of few enough small trees the biomass is added; of none there is nothing to add
  gained : (T d N : ℕ) (m : BiomassRange) → leb (small_number_of l) most_estimated ≡ true
      → row_gaining l T d N m (small_number_of l) ≡ gives (row_with l T d N (gaining m (small_of (small_number_of l) l.small.carbon)))
  unfolding row_gaining
  gained T d N m few =
      let number = small_number_of l in
      let carbon = l.small.carbon in
      none_or_some (λ (r : Report Row). r ≡ gives (row_with l T d N (gaining m (small_of number carbon)))) number _ _
      (λ none. ap (λ (x : BiomassRange). gives (row_with l T d N x)) (rw none (nothing_gained m carbon)))
      (λ some.
      let vl = v.line l is_open in
      let counted = some_counted l vl.q.least some in
      rw (small_answers number carbon (record { least = zero-le; most = leb-true _ _ few }) (record { least = vl.small.some counted; most = vl.small.light })))

-- a number of trees that step 3 gives is refused where it is too great, and else goes on
scaled_then : {A B : Type 0} {N : ℕ} (n p q : ℕ) (g : ℕ → Report A) (f : A → Report B) (rest : Report B) → trees n p q ≡ gives N
    → (leb N most_estimated ≡ true → g N then f ≡ rest) → scaled n p q then g then f ≡ unless (leb N most_estimated) 15 rest
scaled_then {N} n p q g f rest answered goes_on =
    ap (λ (r : Report ℕ). (r then λ N. unless (leb N most_estimated) 15 (gives N)) then g then f) answered ∙ by_test (leb N most_estimated) goes_on
  where
    by_test : (test : Bool) → (test ≡ true → g N then f ≡ rest) → unless test 15 (gives N) then g then f ≡ unless test 15 rest
    by_test true h = h refl
    by_test false h = refl

-- ---- every command

-- what becomes of the row that the open line leaves: where fewer than 32 lines are closed, there is a place for it
abbrev kept : Survey → Row → Report Survey
kept s r = when (leb most_lines s.closed) 11 (gives (with_row s r))

row_kept : {r x : Row} {known : Report Row} (s : Survey) → s.closed < most_lines → known ≡ gives r → x ≡ r → known then kept s ≡ gives (with_row s x)
row_kept s room known is = rw (known, lt-leb most_lines s.closed room, is)

module _ (s : Survey) (l : Line) (v : Valid s) (is_open : s.line ≡ Some l) where
  kept_none : eqb l.tally.n 0 ≡ true → leb (small_number_of l) most_estimated ≡ true
      → row_gaining l 0 0 (small_number_of l) (between 0 0) (small_number_of l) then kept s ≡ gives (with_row s (closing_row s.factors l))
  kept_none none few =
      row_kept s (v.room l is_open) (gained s l v is_open 0 0 _ (between 0 0) few)
      (row_by s.factors l (measured_by s.factors l none) ∙ rw (zero-add, zero-mul))

  kept_some : eqb l.tally.n 0 ≡ false → leb (small_number_of l) most_estimated ≡ true
      → row_gaining l (T_of l) (d_of l) (N_of l + small_number_of l) (row_of (N_of l) (tree_of (tree_at s.factors l))) (small_number_of l) then kept s
      ≡ gives (with_row s (closing_row s.factors l))
  kept_some some few = row_kept s (v.room l is_open) (gained s l v is_open _ _ _ _ few) (row_by s.factors l (measured_by s.factors l some))

  -- so a line without measured trees closes as the text says
  small_closes : eqb l.tally.n 0 ≡ true → small_row l then kept s ≡ close_small s l
  small_closes none = scaled_then _ _ _ _ (kept s) _ (count_answered s l v is_open) (kept_none none)

  -- and one with some
  some_closes : eqb l.tally.n 0 ≡ false → eqb l.heights.number 0 ≡ false
      → some_row s.factors l then kept s ≡ given (factor_for s.factors (d_of l)) 14 then λ f. unless (leb (N_of l) most_estimated) 15 (close_small s l)
  unfolding worked
  some_closes some heights =
      answered_then (kept s) _ _ (mean_known s l v is_open some)
      (given_then (kept s) _ 14 _ _ (λ f factor.
      scaled_then _ _ _ _ (kept s) _ (n_answered s l v is_open) (λ few.
      scaled_then _ _ _ _ (kept s) _ (count_answered s l v is_open) (λ small.
      answered_then (kept s) _ _ (tariff_known s l v is_open some heights)
      (answered_then (kept s) _ _ (row_known s l v is_open some heights f factor few) (kept_some some small))))))

-- what the checks besides say is so of a valid survey, and the other checks are the same
ruleset text = (
  when_same,
  given_same,
  unless_same,
  when_then,
  unless_then,
  cond_then,
  then_then,
  passed_then,
  answered_then,
  squares_within,
  tariffs_within,
  small_closes,
  some_closes,
)

pub as_written_lem : (c : Command) (s : Survey) → Valid s → apply c s ≡ as_written c s
unfolding apply_measured add_trees measure apply_height add_height give_height apply_close line_row close
as_written_lem (Command.Species id species) s v = refl
as_written_lem (Command.Factor cm factor) s v = refl
as_written_lem (Command.Open stratum species p q) s v = refl
as_written_lem (Command.Measured class count) s v = search text depth 14
as_written_lem (Command.Height cm tenths) s v = search text depth 14
as_written_lem Command.Close s v = search text depth 14
as_written_lem Command.End s v = refl
as_written_lem (Command.Small carbon count) s v = refl
