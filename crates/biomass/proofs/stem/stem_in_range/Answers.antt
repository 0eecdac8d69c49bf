-- `biomass::stem::stem_in_range` meets its contract: what `volume` ensures fixes both ends of the stem (`stem_ends_lem`).
use Rattle.std.proofs.Common.{ap, sym}
use Rattle.biomass.specs.Ends.{range}
use Rattle.biomass.proofs.Law.Stem.{stem_ends_lem}
use Rattle.biomass.proofs.stem.stem_in_range.Goals as goal

pub returns : goal.returns
returns c =
    let v = c.volume-v.ensures in
    ap range (sym (stem_ends_lem (record { low = v.0; high = v.1; most = v.2 }) c.args.factor.number c.args.gravity.number))
