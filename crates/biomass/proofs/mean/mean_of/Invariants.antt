-- What the loop of `biomass::mean::mean_of` keeps: step 2's first inequality holds at `low` and no more at `above`.
use Rattle.std.proofs.Common.{◌+◌, ◌-◌, ◌*◌, ◌<◌, ◌≤◌}
use Rattle.powers.specs.Diameter.{least_d, greatest_d}
use Rattle.biomass.specs.Whole.{square}
use Rattle.biomass.specs.Mean.{square_scale}
use Rattle.biomass.proofs.mean.mean_of.Given as goal

abbrev pub invariant-loop-above : goal.invariant-loop-above
invariant-loop-above l = record {
  from_least : least_d ≤ l.low;
  apart : l.low < l.above;
  to_greatest : l.above ≤ greatest_d + 1;
  holds : square (2 * l.low - 1) * l.n.number ≤ square_scale * l.squares;
  fails : square_scale * l.squares < square (2 * l.above - 1) * l.n.number;
}

abbrev pub decreases-loop-above : goal.decreases-loop-above
decreases-loop-above l = l.above - l.low
