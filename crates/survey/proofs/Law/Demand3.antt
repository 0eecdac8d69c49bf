-- Demand 3, of every book that is accepted. Each row has it of its own line (line/proofs/Law/Estimate.antt); rows added keep it, and 11/6000 of the sum, with 1
-- added to the high, keeps it too.
use Rattle.std.specs.Prelude.{ℕ, zero, suc, ◌+◌, ◌*◌, ◌≤◌, ◌<◌, ◌≡◌, refl, get_or, take, pos}
use Rattle.std.proofs.Common.{mul-pos, arith, ◌∙◌, sym, ap, lit<}
use Rattle.std.proofs.Math.Path.{subst}
use mathlib.Core.List.{List, [], ◌∷◌, map}
use Rattle.std.proofs.Math.ListN.{length}
use Rattle.survey.specs.Bounds.{RowsSmall}
use Rattle.biomass.specs.Fraction.{whole, ◌≼◌}
use Rattle.biomass.proofs.Law.Fraction.{≼_refl, ⊕_mono, whole-⊕}
use Rattle.biomass.proofs.Law.Project.{equal_of_none, none_of_equal, project_gap, project_not_under, project_not_over}
use Rattle.line.specs.Line.{Estimate, both_numbers}
use Rattle.line.proofs.Law.Estimate.{estimate_not_under, estimate_not_over, estimate_den, estimate_bounds}
use Rattle.survey.specs.Survey.{no_row, closing_row, rows_of}
use Rattle.rules.specs.Checks.{most_lines}
use Rattle.survey.specs.AsWritten.{as_written}
use Rattle.survey.specs.Closings.{Closing, estimate_of, row_of_closing, closings_of}
use Rattle.survey.specs.Valid.{Within, Valid}
use Rattle.survey.specs.Playing.{Played, ended, stopped, play_by, play}
use Rattle.survey.specs.Total.{sum_of, row_trees, low_of, high_of, totalled, total_of, answer_of, total}
use Rattle.survey.specs.Demand3.{lines_of, trees_added, NoneEstimated, Fractions, after_first, exact_sum, exact_total, NoneBelow, NoneAbove, Demand3, Demanded}
use Rattle.survey.proofs.Law.Sheet.{rows_at_most}
use Rattle.survey.proofs.Law.Sums.{sums_small}
use Rattle.survey.proofs.Law.Playing.{play_valid, play_as_written}
use Rattle.survey.proofs.Law.Closings.{AllClosed, of_no_line, and_lines, all_lines_closed, rows_are}
use Rattle.survey.proofs.Law.Total.{of_answer}
use Rattle.line.specs.declared.row.Row.{Row}
use Rattle.survey.specs.declared.survey.Survey.{Survey}

-- ---- the rows

-- rows whose figures are within the greatest line
within_small : (n : ℕ) (l : List Row) → ((i : ℕ) → i < n → Within (get_or l i no_row)) → RowsSmall (take n l)
within_small zero l each = RowsSmall.none
within_small (suc n) [] each = RowsSmall.none
within_small (suc n) (r ∷ l) each =
    let w = each 0 (omega arith) in
    let b = w.biomass in
    RowsSmall.more r (take n l) w.trees (omega arith) (omega arith) (within_small n l (λ i h. each (suc i) (omega arith)))

-- and so those of a valid survey
pub rows_small : (s : Survey) → Valid s → RowsSmall (rows_of s)
rows_small s v = within_small s.closed s.rows v.rows

-- ---- the sums

-- of closed rows, the two sums are at most 54 mg for each tree and 3 mg for each row apart, and the high one is 0 where no line has trees
record SumsNear (rows : List Row) : Type 0 where
  near : 100 * sum_of high_of rows ≤ 100 * sum_of low_of rows + 54 * sum_of row_trees rows + 300 * length rows
  high_of_none : sum_of row_trees rows ≡ 0 → sum_of high_of rows ≡ 0

sums_near : {cs : List Closing} → AllClosed cs → SumsNear (map row_of_closing cs)
unfolding sum_of closing_row
sums_near of_no_line = omega arith
sums_near (and_lines c cs w closed) =
    let b = estimate_bounds (estimate_of c) w in
    let rest = sums_near closed in
    record { near = omega arith; high_of_none = λ none. omega (arith, b.high_of_none (omega arith), rest.high_of_none (omega arith)) }

-- "the N of all lines added" is that of the rows added
added_is : {cs : List Closing} → AllClosed cs → trees_added (map estimate_of cs) ≡ sum_of row_trees (map row_of_closing cs)
unfolding sum_of trees_added closing_row
added_is of_no_line = refl
added_is (and_lines c cs w closed) = ap (λ (n : ℕ). both_numbers (estimate_of c) + n) (added_is closed)

-- ---- none is estimated where the N of all lines added is 0, and only there

pub none_added : (ls : List Estimate) → NoneEstimated ls → trees_added ls ≡ 0
unfolding trees_added
none_added [] none = refl
none_added (l ∷ ls) none = omega (arith, none 0, none_added ls (λ i. none (suc i)))

pub every_none : (ls : List Estimate) → trees_added ls ≡ 0 → NoneEstimated ls
unfolding trees_added
every_none [] h i = (refl, refl)
every_none (l ∷ ls) h zero = omega arith
every_none (l ∷ ls) h (suc i) = every_none ls (omega arith) i

-- ---- "Not under the low" and "Not over the high"

-- the exact total's denominator is above 0, so that `≼` says of it what it seems to say
sum_den : (g : Fractions) (ls : List Estimate) → 0 < (exact_sum g ls).den
unfolding exact_sum
sum_den g [] = lit< tt
sum_den g (l ∷ ls) = mul-pos (estimate_den l (g.crown 0) (g.root 0)) (sum_den (after_first g) ls)

pub total_den : (g : Fractions) (ls : List Estimate) → 0 < (exact_total g ls).den
unfolding exact_total
total_den g ls = mul-pos (lit< tt) (sum_den g ls)

-- line by line
sum_not_under : (g : Fractions) {cs : List Closing} → AllClosed cs → NoneBelow g (map estimate_of cs)
    → whole (pos (sum_of low_of (map row_of_closing cs))) ≼ exact_sum g (map estimate_of cs)
unfolding sum_of exact_sum closing_row
sum_not_under g of_no_line below = ≼_refl (whole (pos 0))
sum_not_under g (and_lines c cs w closed) below =
    rw (← whole-⊕ (pos (low_of (row_of_closing c))) (pos (sum_of low_of (map row_of_closing cs))))
    (⊕_mono (estimate_not_under (estimate_of c) w (g.crown 0) (g.root 0) (below 0)) (sum_not_under (after_first g) closed (λ i. below (suc i))))

sum_not_over : (g : Fractions) {cs : List Closing} → AllClosed cs → NoneAbove g (map estimate_of cs)
    → exact_sum g (map estimate_of cs) ≼ whole (pos (sum_of high_of (map row_of_closing cs)))
unfolding sum_of exact_sum closing_row
sum_not_over g of_no_line above = ≼_refl (whole (pos 0))
sum_not_over g (and_lines c cs w closed) above =
    rw (← whole-⊕ (pos (high_of (row_of_closing c))) (pos (sum_of high_of (map row_of_closing cs))))
    (⊕_mono (estimate_not_over (estimate_of c) w (g.crown 0) (g.root 0) (above 0)) (sum_not_over (after_first g) closed (λ i. above (suc i))))

-- ---- the demand

-- of at most 32 lines that are closed, with the rows that they leave
pub demand3 : (cs : List Closing) → AllClosed cs → RowsSmall (map row_of_closing cs) → length (map row_of_closing cs) ≤ most_lines
    → Demand3 (map estimate_of cs) (total_of (map row_of_closing cs)).carbon.low.0 (total_of (map row_of_closing cs)).carbon.high.0
unfolding total_of exact_total
demand3 cs closed small number =
    let rows = map row_of_closing cs in
    let L = sum_of low_of rows in
    let H = sum_of high_of rows in
    let N = sum_of row_trees rows in
    let b = sums_near closed in
    let ordered : L ≤ H = (sums_small rows small).2 in
    let is = added_is closed in
    record {
      equal_only_when = λ e. every_none (map estimate_of cs) (is ∙ none_of_equal L H N ordered e);
      equal_when = λ none. equal_of_none L H N (sym is ∙ none_added (map estimate_of cs) none);
      gap = rw is (project_gap L H N (300 * length rows) (omega arith) b.near);
      not_under_the_low = λ g below. project_not_under L H N (sum_not_under g closed below);
      not_over_the_high = λ g above. project_not_over L H N b.high_of_none (sum_not_over g closed above);
    }

-- ---- of every book

module _ (book : List ℕ) (s : Survey) (accepted : play book ≡ ended s) where
  -- the survey that an accepted book comes to is valid (Law.Playing), and its rows are those of the book's closings (Law.Closings)
  by_text : play_by as_written book ≡ ended s
  by_text = sym (play_as_written book) ∙ accepted

  pub accepted_demanded : Demanded book (totalled (total_of (rows_of s)))
  unfolding lines_of
  accepted_demanded =
      let v = play_valid book s accepted in
      let rows = rows_of s in
      let are : rows ≡ map row_of_closing (closings_of book) = rows_are book s by_text in
      let small : RowsSmall (map row_of_closing (closings_of book)) = subst RowsSmall are (rows_small s v) in
      let number : length (map row_of_closing (closings_of book)) ≤ most_lines = subst (λ (rs : List Row). length rs ≤ most_lines) are (rows_at_most s v) in
      rw are (demand3 (closings_of book) (all_lines_closed book) small number)

  -- and "the N of all lines added", which comes back, is that of these lines
  pub trees_are : (total_of (rows_of s)).trees ≡ trees_added (lines_of book)
  unfolding lines_of total_of
  trees_are = rw (rows_are book s by_text) (sym (added_is (all_lines_closed book)))

played_demanded : (book : List ℕ) (p : Played) → play book ≡ p → Demanded book (answer_of p)
played_demanded book (stopped n at) e = tt
played_demanded book (ended s) e = accepted_demanded book s e

-- with every sheet, what is answered is as demanded
pub demanded : (book sheet : List ℕ) → Demanded book (total book sheet)
demanded book sheet = of_answer book sheet (Demanded book) tt (played_demanded book)
