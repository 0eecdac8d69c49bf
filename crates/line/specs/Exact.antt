-- The exact value of one line, in mg.
use Rattle.std.specs.Prelude.{cond, eqb}
use Rattle.biomass.specs.Fraction.{Fraction, ◌⊕◌}
use Rattle.biomass.specs.Exact.{Given, exact_row, exact_small}
use Rattle.line.specs.Line.{Estimate}

-- "the exact value counts number/100 times twice the carbon, undropped"; ".. the measured part of the exact value keep[s] the measured number alone" (document
-- 02, Q-1): of the small trees of every line, and beside it the measured part "over the lines with N above 0"
unfoldable pub exact_of : Estimate → Given → Given → Fraction
exact_of e crown_power root_power =
    let small = exact_small e.small.number e.small.carbon in
    cond (eqb e.measured.N 0) small (exact_row e.measured.N e.measured.tree crown_power root_power ⊕ small)
