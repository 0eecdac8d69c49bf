-- Document 02, Q-1: the biomass of a line's small trees, in mg.
use Rattle.std.specs.Prelude.{ℕ, ◌+◌, ◌*◌, ◌/◌, cond, eqb}
use Rattle.biomass.specs.Whole.{inside}
use Rattle.biomass.specs.Report.{Report, gives, unless}
use Rattle.biomass.specs.Limits.{most_estimated, greatest_carbon}
use Rattle.biomass.specs.Ends.{between}
use Rattle.biomass.specs.Units.{BiomassRange}

-- "The line's low gains number times twice the carbon div 100". The number is in hundredths, and carbon is half of biomass
abbrev pub small_low : ℕ → ℕ → ℕ
small_low number carbon = number * (2 * carbon) / 100

-- "its high gains the same and one more when the number is above 0"
abbrev pub small_high : ℕ → ℕ → ℕ
small_high number carbon = cond (eqb number 0) (small_low number carbon) (small_low number carbon + 1)

abbrev pub small_of : ℕ → ℕ → BiomassRange
small_of number carbon = between (small_low number carbon) (small_high number carbon)

-- "either number above 100,000,000 at closing is 15"; "the carbon of one small tree in mg (4 bytes, 1 and up)". As a figure by itself it is declined with 6
unfoldable pub small_trees : ℕ → ℕ → Report BiomassRange
small_trees number carbon =
    unless (inside 0 number most_estimated) 6
    (unless (inside 1 carbon greatest_carbon) 6
    (gives (small_of number carbon)))
