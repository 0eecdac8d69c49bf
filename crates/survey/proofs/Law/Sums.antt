-- The sums of rows: none is past 64 bits, since no row is above the greatest line and 32 of those fit. The code has them from the library's sum.
use Rattle.std.specs.Prelude.{ℕ, zero, suc, ◌+◌, ◌*◌, ◌≤◌, ◌<◌, ◌≡◌, List, [], ◌∷◌, length, get_or, take, sum_by, refl, ◌^◌}
use Rattle.std.proofs.Common.{zero-le, arith, lit≤, ap, ◌∙◌}
use Rattle.std.proofs.lemmas.List.Sums.{sum_by-cons}
use Rattle.survey.specs.Bounds.{RowsSmall, FewSmall}
use Rattle.biomass.specs.Report.{gives}
use Rattle.biomass.specs.Project.{project_of, project}
use Rattle.biomass.proofs.Law.Answers.{project_answers}
use Rattle.line.specs.Bounds.{greatest_line, most_of_both}
use Rattle.rules.specs.Checks.{most_lines}
use Rattle.survey.specs.Total.{sum_of, row_trees, low_of, high_of, sums}
use Rattle.line.specs.declared.row.Row.{Row}

-- of small rows, the first are small
pub first_small : (i n : ℕ) (rows : List Row) → i ≤ n → RowsSmall (take n rows) → RowsSmall (take i rows)
first_small zero n rows h small = RowsSmall.none
first_small (suc i) zero rows h small = absurd (omega arith)
first_small (suc i) (suc n) [] h small = RowsSmall.none
first_small (suc i) (suc n) (r ∷ rows) h (RowsSmall.more x xs few ordered most small) =
    RowsSmall.more r (take i rows) few ordered most (first_small i n rows (omega arith) small)

-- of small rows, each sum is at most the number of rows times the greatest figure
pub sums_small : (rows : List Row) → RowsSmall rows
    → (sum_of row_trees rows ≤ most_of_both * length rows) × (sum_of high_of rows ≤ greatest_line * length rows) × (sum_of low_of rows ≤ sum_of high_of rows)
unfolding sum_of
sums_small rows RowsSmall.none = (lit≤ tt, lit≤ tt, lit≤ tt)
sums_small rows (RowsSmall.more r rs few ordered small h) = let rest = sums_small rs h in omega arith

-- so that eleven times the sums of 32 rows fit 64 bits, and `project` gives its figures
pub project_gives : (rows : List Row) → RowsSmall rows → length rows ≤ most_lines
    → project (sums rows) (sum_of row_trees rows) ≡ gives (project_of (sums rows) (sum_of row_trees rows))
project_gives rows h most =
    let small = sums_small rows h in
    project_answers (sums rows) _ (record { least = zero-le; most = omega arith }) (record { least = zero-le; most = omega arith })

-- a row more adds its figure
pub sum_one_more : (figure : Row → ℕ) (rows : List Row) (i : ℕ) (z : Row) → i < length rows
    → sum_of figure (take (suc i) rows) ≡ sum_of figure (take i rows) + figure (get_or rows i z)
unfolding sum_of
sum_one_more figure [] i z h = absurd (omega arith)
sum_one_more figure (r ∷ rows) zero z h = omega arith
sum_one_more figure (r ∷ rows) (suc i) z h = omega (arith, sum_one_more figure rows i z (omega arith))

-- ---- the library's sums are these

pub sum_is : (figure : Row → ℕ) (rows : List Row) → sum_by figure rows ≡ sum_of figure rows
unfolding sum_of
sum_is figure [] = refl
sum_is figure (r ∷ rows) = sum_by-cons figure r rows ∙ ap (λ (n : ℕ). figure r + n) (sum_is figure rows)

pub sum_added : (figure : Row → ℕ) (rows : List Row) {n : ℕ} → n ≡ sum_by figure rows → n ≡ sum_of figure rows
sum_added figure rows e = e ∙ sum_is figure rows

-- those of at most 32 small rows fit 64 bits
module _ (rows : List Row) (h : FewSmall rows) where
  pub trees_fit : sum_by row_trees rows < 2 ^ 64
  trees_fit = rw (sum_is row_trees rows) (let small = sums_small rows h.small in omega (arith, h.few))

  pub highs_fit : sum_by high_of rows < 2 ^ 64
  highs_fit = rw (sum_is high_of rows) (let small = sums_small rows h.small in omega (arith, h.few))

  pub lows_fit : sum_by low_of rows < 2 ^ 64
  lows_fit = rw (sum_is low_of rows) (let small = sums_small rows h.small in omega (arith, h.few))
