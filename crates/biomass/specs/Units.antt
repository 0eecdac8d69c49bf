-- The two kinds of range that figures have: src/units.rt. A range of milligrams, and one of grams of carbon dioxide.
use Rattle.biomass.specs.declared.units.Milligrams.{Milligrams}
use Rattle.biomass.specs.declared.units.Grams.{Grams}
use Rattle.biomass.specs.declared.units.Range.{Range}

abbrev pub BiomassRange : Type 0
BiomassRange = Range Milligrams

abbrev pub CarbonRange : Type 0
CarbonRange = Range Grams
