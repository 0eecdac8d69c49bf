-- `line::line::Line::worked` meets its contract: it asks `biomass` for the biomass of the definition's tree, and T, d and both numbers fit the row's types.
use Rattle.std.proofs.Common.{sym}
use Rattle.biomass.proofs.Law.Tree.{row_bounds}
use Rattle.line.proofs.line.Line.worked.Goals as goal

-- the biomass of a row that is answered is within that of the greatest row
pub row_gaining-requires : goal.row_gaining-requires
row_gaining-requires c = let bounds = row_bounds _ _ _ (sym c.in_ok-biomass.ensures) in (bounds.ordered, bounds.small)
