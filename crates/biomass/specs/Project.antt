-- The project's two figures, in grams of carbon dioxide.
use Rattle.std.specs.Prelude.{ℕ, ◌+◌, ◌*◌, ◌/◌, cond, eqb}
use Rattle.biomass.specs.Whole.{inside}
use Rattle.biomass.specs.Report.{Report, gives, unless}
use Rattle.biomass.specs.declared.units.Milligrams.{Milligrams}
use Rattle.biomass.specs.declared.units.Grams.{Grams}
use Rattle.biomass.specs.Units.{BiomassRange, CarbonRange}

-- "Carbon is half of biomass, and 44/12 is kept as 11/3."
abbrev pub dioxide : Milligrams → Grams
dioxide m = record { 0 = 11 * m.0 / 6000 }

abbrev pub one_more : Grams → Grams
one_more g = record { 0 = g.0 + 1 }

-- "Project low = 11·(sum of row lows) div 6000; project high = 11·(sum of row highs) div 6000 + 1, or the low when every N is 0."
-- The N of all lines added is 0 exactly when every N is
abbrev pub project_of : BiomassRange → ℕ → CarbonRange
project_of sums N =
    record {
      low = dioxide sums.low;
      high = cond (eqb N 0) (dioxide sums.low) (one_more (dioxide sums.high));
    }

-- A sum is declined where eleven times it passes 64 bits. Those of 32 rows come to half of that at most (one row: Law.Tree; the sums: Law.Sums of the
-- crate `survey`)
abbrev pub greatest_sum : ℕ
greatest_sum = 1676976733973595601

unfoldable pub project : BiomassRange → ℕ → Report CarbonRange
project sums N =
    unless (inside 0 sums.low.0 greatest_sum) 6
    (unless (inside 0 sums.high.0 greatest_sum) 6
    (gives (project_of sums N)))
