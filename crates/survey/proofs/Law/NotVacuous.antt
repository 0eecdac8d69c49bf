-- Demand 3 says something of every book that is accepted: on its lines there are fractions that are not above the powers and fractions that are not below
-- them, the exact totals with the first are not above those with the second, and the low is not above the high. The fractions shown are step 5's w and
-- step 6's y, in units of 10^-5, and w + 1 and y + 1 (biomass/proofs/Law/Power.antt).
use Rattle.survey.specs.Survey.{rows_of}
use Rattle.std.specs.Prelude.{ℕ, zero, suc, ◌+◌, ◌≤◌, ◌<◌, ◌≡◌, cond, List, [], ◌∷◌, eqb, pos}
use Rattle.std.proofs.Common.{zero-le, arith, subst}
use Rattle.std.proofs.Math.Dec.{eqb-suc-zero}
use Rattle.powers.specs.Crown.{w}
use Rattle.biomass.specs.Root.{y}
use Rattle.biomass.specs.Fraction.{Fraction, whole, ◌over◌, ◌≼◌}
use Rattle.biomass.specs.Exact.{Given, NotBelow, NotAbove, exact_small}
use Rattle.biomass.proofs.Law.Signed.{pos_le}
use Rattle.biomass.proofs.Law.Fraction.{≼_refl, ⊕_mono, ⊗_mono}
use Rattle.biomass.proofs.Law.Power.{units, w_not_above, next_w_not_below, y_not_above, next_y_not_below}
use Rattle.biomass.proofs.Law.Exact.{tree_ordered}
use Rattle.biomass.proofs.Law.Project.{project_ordered}
use Rattle.line.specs.Line.{Estimate}
use Rattle.line.specs.Exact.{exact_of}
use Rattle.survey.specs.Playing.{Played, ended, stopped, play}
use Rattle.survey.specs.Total.{Answer, refused_at, totalled, sum_of, row_trees, total_of, answer_of, total}
use Rattle.survey.specs.Demand3.{line_at, Fractions, after_first, exact_sum, exact_total, NoneBelow, NoneAbove}
use Rattle.survey.proofs.Law.Sums.{sums_small}
use Rattle.survey.proofs.Law.Demand3.{rows_small}
use Rattle.survey.proofs.Law.Playing.{play_valid}
use Rattle.survey.proofs.Law.Total.{of_answer}
use Rattle.survey.specs.declared.total.Totals.{Totals}

-- ---- there are fractions

-- w and y of each line, in units of 10^-5, and w + 1 and y + 1
unfoldable pub from_below : List Estimate → Fractions
from_below ls = record { crown = λ i. units (w (line_at ls i).measured.tree.d); root = λ i. units (y (line_at ls i).measured.tree.d) }

unfoldable pub from_above : List Estimate → Fractions
from_above ls = record { crown = λ i. units (w (line_at ls i).measured.tree.d + 1); root = λ i. units (y (line_at ls i).measured.tree.d + 1) }

-- whatever the lines, there are fractions that are not above the powers, and fractions that are not below them
pub some_not_above : (ls : List Estimate) → NoneAbove (from_below ls) ls
unfolding from_below
some_not_above ls i some =
    let d = (line_at ls i).measured.tree.d in
    record { on_crown = λ on_curve. w_not_above d; on_root = λ on_curve. y_not_above d }

pub some_not_below : (ls : List Estimate) → NoneBelow (from_above ls) ls
unfolding from_above
some_not_below ls i some =
    let d = (line_at ls i).measured.tree.d in
    record { on_crown = λ on_curve. next_w_not_below d; on_root = λ on_curve. next_y_not_below d }

-- ---- they are in order

-- a line without measured trees has its small trees in both
lines_ordered : (l : Estimate) (crown_power root_power crown_power' root_power' : Given) → (0 < l.measured.N → NotAbove l.measured.tree crown_power root_power)
    → (0 < l.measured.N → NotBelow l.measured.tree crown_power' root_power') → exact_of l crown_power root_power ≼ exact_of l crown_power' root_power'
unfolding exact_of
lines_ordered l crown_power root_power crown_power' root_power' above below =
    let small = ≼_refl (exact_small l.small.number l.small.carbon) in
    with_trees_ordered l.measured.N small
    (λ some.
    let one = tree_ordered l.measured.tree crown_power root_power crown_power' root_power' (above some) (below some) in
    ⊕_mono (⊗_mono (whole (pos l.measured.N) over 100) (pos_le zero-le) one) small)
  where
    with_trees_ordered : (N : ℕ) {x x' y y' : Fraction} → x ≼ x' → (0 < N → y ≼ y') → cond (eqb N 0) x y ≼ cond (eqb N 0) x' y'
    with_trees_ordered zero h k = h
    with_trees_ordered (suc n) h k = rw (eqb-suc-zero n) (k (omega arith))

-- whatever fractions not above the powers and not below them are given: line by line, the values are in order
sums_ordered : (g h : Fractions) (ls : List Estimate) → NoneAbove g ls → NoneBelow h ls → exact_sum g ls ≼ exact_sum h ls
unfolding exact_sum
sums_ordered g h [] above below = ≼_refl (whole (pos 0))
sums_ordered g h (l ∷ ls) above below =
    ⊕_mono (lines_ordered l (g.crown 0) (g.root 0) (h.crown 0) (h.root 0) (above 0) (below 0))
    (sums_ordered (after_first g) (after_first h) ls (λ i. above (suc i)) (λ i. below (suc i)))

pub totals_ordered : (g h : Fractions) (ls : List Estimate) → NoneAbove g ls → NoneBelow h ls → exact_total g ls ≼ exact_total h ls
unfolding exact_total
totals_ordered g h ls above below = ⊗_mono (whole (pos 11) over 6000) (pos_le zero-le) (sums_ordered g h ls above below)

-- ---- the low is not above the high

abbrev Ordered : Answer → Type 0
Ordered (refused_at n at) = Unit
Ordered (totalled t) = t.carbon.low.0 ≤ t.carbon.high.0

played_ordered : (book : List ℕ) (p : Played) → play book ≡ p → Ordered (answer_of p)
unfolding total_of
played_ordered book (stopped n at) e = tt
played_ordered book (ended s) e = project_ordered _ _ (sum_of row_trees (rows_of s)) (sums_small (rows_of s) (rows_small s (play_valid book s e))).2

-- of every book and every sheet
pub low_not_above_high : (book sheet : List ℕ) (t : Totals) → total book sheet ≡ totalled t → t.carbon.low.0 ≤ t.carbon.high.0
low_not_above_high book sheet t e = subst Ordered e (of_answer book sheet Ordered tt (played_ordered book))
