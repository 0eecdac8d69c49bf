-- `line::line::Line::row_gaining` meets its contract: where there are small trees their biomass is added, and both are small enough that the sums fit.
use Rattle.std.proofs.Common.{sym, arith}
use Rattle.biomass.proofs.Law.SmallTrees.{small_trees_bounds}
use Rattle.line.proofs.line.Line.row_gaining.Goals as goal

-- the greatest row and the greatest number of small trees together fit
pub overflow_add-both : goal.overflow_add-both
overflow_add-both c = omega (arith, small_trees_bounds _ _ _ (sym c.in_ok-gained.ensures))

pub overflow_add-both-2 : goal.overflow_add-both-2
overflow_add-both-2 c = omega (arith, small_trees_bounds _ _ _ (sym c.in_ok-gained.ensures))
