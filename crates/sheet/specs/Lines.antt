-- The lines of a sheet, without their line ends: document 01, "Reading out".
use Rattle.std.specs.Prelude.{ℕ, ◌+◌, ◌/◌, ◌%◌, List, [], ◌∷◌, ◌++◌, codes, decimal}
use Rattle.line.specs.declared.row.Row.{Row}
use Rattle.survey.specs.declared.total.Totals.{Totals}

-- both digits of a number below 100
abbrev pub two_digits : ℕ → List ℕ
two_digits n = (48 + n / 10) ∷ (48 + n % 10) ∷ []

-- hundredths as a number with two places: 5 hundredths are 0.05
abbrev pub two_places : ℕ → List ℕ
two_places n = decimal (n / 100) ++ codes "." ++ two_digits (n % 100)

-- trees, the low and the high: what each line ends with
abbrev pub estimate : ℕ → ℕ → ℕ → List ℕ
estimate trees low high = two_places trees ++ codes " " ++ decimal low ++ codes " " ++ decimal high

-- stratum and species, and the estimate in milligrams of biomass
abbrev pub row_line : Row → List ℕ
row_line r = decimal r.stratum ++ codes " " ++ decimal r.species ++ codes " " ++ estimate r.trees r.biomass.low.0 r.biomass.high.0

-- the estimate of the project in grams of carbon dioxide
abbrev pub project_line : Totals → List ℕ
project_line t = codes "project " ++ estimate t.trees t.carbon.low.0 t.carbon.high.0
