-- What hangs on the unit of a diameter hangs together: the numbers that steps 2 and 4 name are those of `units_to_cm` units to the cm. (Those of the two
-- powers are, by Law.Power; elsewhere the steps name the unit itself.)
use Rattle.std.specs.Prelude.{◌≡◌, refl, ◌*◌}
use Rattle.powers.specs.Diameter.{units_to_cm}
use Rattle.biomass.specs.Whole.{square}
use Rattle.biomass.specs.Mean.{square_scale}
use Rattle.biomass.specs.Stem.{area_scale}

-- step 2 squares halves of a unit
pub square_scale_is : square_scale ≡ square (2 * units_to_cm)
square_scale_is = refl

-- step 4 makes G of pi·d²/4, with d in metres, which are 100·`units_to_cm` units. Pi is in units of 10^-8 and G of 10^-9 m², so a 10 is left
pub area_scale_is : 10 * area_scale ≡ 4 * square (100 * units_to_cm)
area_scale_is = refl
