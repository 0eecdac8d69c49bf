-- A group's row is the definition's, and what the law says of its numbers holds.
use Rattle.std.proofs.Common.{refl}
use Rattle.biomass.proofs.Law.Crown.{crown_sound}
use Rattle.biomass.proofs.crown.CrownsPart.row.Goals as goal

pub returns : goal.returns
returns c = (refl, crown_sound c.args.group c.requires)
