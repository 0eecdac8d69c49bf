-- `line::line::Line::some_row` meets its contract: its tests and figures are the definition's, in order, and each is in the range that what follows asks for.
use Rattle.std.proofs.Common.{◌≡◌, ℕ, ◌≤◌, leb-true, sym, subst, arith}
use Rattle.biomass.specs.Report.{gives}
use Rattle.biomass.specs.Limits.{most_estimated}
use Rattle.biomass.specs.Trees.{trees}
use Rattle.biomass.proofs.Law.Gives.{made, figure_is, test_passed}
use Rattle.biomass.proofs.Law.Mean.{mean_gives}
use Rattle.biomass.proofs.Law.Tariff.{line_tariff_range}
use Rattle.line.specs.AnyLine.{scaled}
use Rattle.line.proofs.line.Line.some_row.Goals as goal

-- a number of trees that is answered is within the limit of a line
scaled_few : (n p q N : ℕ) → scaled n p q ≡ gives N → N ≤ most_estimated
scaled_few n p q N e =
    let all = made (trees n p q) _ e in
    let few = test_passed _ 15 _ all.next in
    subst (λ (m : ℕ). m ≤ most_estimated) (figure_is few.1) (leb-true _ _ few.0)

-- a mean that is given is at most the greatest d, so that the table of factors has a place for it
pub bounds-factors-cm : goal.bounds-factors-cm
bounds-factors-cm c = omega (arith, (mean_gives _ _ _ (sym c.in_ok-d.ensures)).range)

pub worked-requires : goal.worked-requires
worked-requires c = (
  line_tariff_range _ _ _ (sym c.in_ok-tariff.ensures),
  (mean_gives _ _ _ (sym c.in_ok-d.ensures)).range,
  scaled_few _ _ _ _ (sym c.in_ok-measured.ensures),
  scaled_few _ _ _ _ (sym c.in_ok-small.ensures),
)
