-- `line::line::Line::add_height` meets its contract: the single tariff's refusal is the line's, and then each test of the code is the definition's.
use Rattle.std.proofs.Common.{sym, arith}
use Rattle.biomass.proofs.Law.Tariff.{single_tariff_range}
use Rattle.line.proofs.line.Line.add_height.Goals as goal

-- the tariff that is added is 50 at most
pub overflow_add-self-2 : goal.overflow_add-self-2
overflow_add-self-2 c = omega (arith, single_tariff_range _ _ _ _ _ _ _ (sym c.in_ok-tariff.ensures))
