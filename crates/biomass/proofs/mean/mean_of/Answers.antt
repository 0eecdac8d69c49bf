-- `biomass::mean::mean_of` meets its contract: the upper end that comes nearer fails the first inequality.
use Rattle.std.proofs.Common.{arith}
use Rattle.biomass.proofs.mean.mean_of.Goals as goal

pub loop-above-preserved : goal.loop-above-preserved
loop-above-preserved c =
    let s = c.loop-above.invariant in
    record { from_least = s.from_least; apart = omega arith; to_greatest = omega arith; holds = s.holds; fails = omega arith }
