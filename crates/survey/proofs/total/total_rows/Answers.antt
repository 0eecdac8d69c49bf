-- `survey::total::total_rows` meets its contract. At most 32 rows, each within the greatest line: `project` does not decline their sums.
use Rattle.std.proofs.Common.{◌≡◌, ℕ, List, length, Result, Ok, Err, ◌∙◌, sym, ap, ap₂, sum_by, rules}
use Rattle.std.specs.Result.{IsOk, is_ok}
use Rattle.std.proofs.iter.runs.Made.{chains}
use Rattle.biomass.specs.Report.{report, refusal_number, gives}
use Rattle.biomass.specs.Project.{project_of, project}
use Rattle.biomass.proofs.Law.Gives.{never, figure_is}
use Rattle.biomass.specs.declared.report.Refusal.{Refusal}
use Rattle.biomass.specs.Units.{BiomassRange, CarbonRange}
use Rattle.survey.specs.Bounds.{FewSmall}
use Rattle.survey.specs.Total.{sum_of, row_trees, sums, total_of}
use Rattle.survey.proofs.Law.Sums.{project_gives, trees_fit, sum_added}
use Rattle.line.specs.declared.row.Row.{Row}
use Rattle.survey.proofs.total.total_rows.Goals as goal

-- a report that gives a figure is of that figure
is_given : {A E : Type 0} (number : E → ℕ) {a : A} (r : Result A E) → report number r ≡ gives a → r ≡ Ok a
is_given number (Ok x) e = ap Ok (figure_is e)
is_given number (Err why) e = never e

-- `project` does not decline the rows' sums, and what it gives is the definition's
module _ (rows : List Row) (r : Result CarbonRange Refusal) (few : FewSmall rows) {trees : ℕ} {m : BiomassRange} (trees_are : trees ≡ sum_by row_trees rows)
    (sums_are : m ≡ sums rows) (promise : report refusal_number r ≡ project m trees) where
  figures : r ≡ Ok (project_of (sums rows) (sum_of row_trees rows))
  figures = is_given refusal_number r (promise ∙ ap₂ project sums_are (sum_added row_trees rows trees_are) ∙ project_gives rows few.small few.few)

  given : IsOk r
  given = ap is_ok figures

  totals : {figure : CarbonRange} → r ≡ Ok figure → record { rows = length rows; trees = trees; carbon = figure } ≡ total_of rows
  unfolding total_of
  totals is =
      let project_is = sym is ∙ figures in
      let trees_is = sum_added row_trees rows trees_are in
      cc

pub sum-trees-requires-clause-fits : goal.sum-trees-requires-clause-fits
sum-trees-requires-clause-fits c = let fits = trees_fit c.args.rows.now c.requires.0 in search rules

pub unwrap-carbon-requires : goal.unwrap-carbon-requires
unwrap-carbon-requires c = given _ _ c.requires.0 (search (rules, chains)) c.sums.ensures c.project.ensures

pub returns-clause-totals : goal.returns-clause-totals
returns-clause-totals c = totals _ _ c.requires.0 (search (rules, chains)) c.sums.ensures c.project.ensures c.unwrap-carbon.ensures
