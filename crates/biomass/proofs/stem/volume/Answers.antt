-- `biomass::stem::volume` meets its contract. The laws of `Law.Volume` give its two ends at either side of 118288000, and bound what is taken from
-- the base, so that nothing goes below 0.
use Rattle.std.proofs.Common.{ℕ, arith}
use Rattle.powers.specs.Diameter.{least_d, greatest_d}
use Rattle.biomass.specs.Bounds.{Inside, InRange}
use Rattle.biomass.proofs.Law.Volume.{greater_fall_fits, lesser_fall_fits, volumes_over, volumes_under}
use Rattle.biomass.proofs.stem.volume.Goals as goal

in_range : {T d : ℕ} → Inside 1 T 50 → Inside least_d d greatest_d → InRange T d
in_range t d = (t.least, t.most, d.least, d.most)

pub returns-then-area-ge118288000 : goal.returns-then-area-ge118288000
returns-then-area-ge118288000 c = let v = volumes_over _ _ (in_range c.args.tariff.in_range c.args.d.in_range) c.if-area-ge118288000.true in (v.low, v.high, v.most)

pub overflow_sub-result : goal.overflow_sub-result
overflow_sub-result c = omega (arith, greater_fall_fits _ _ (in_range c.args.tariff.in_range c.args.d.in_range))

pub overflow_sub-result-3 : goal.overflow_sub-result-3
overflow_sub-result-3 c = omega (arith, lesser_fall_fits _ _ (in_range c.args.tariff.in_range c.args.d.in_range))

pub returns : goal.returns
returns c = let v = volumes_under _ _ (in_range c.args.tariff.in_range c.args.d.in_range) c.if-area-ge118288000.false in (v.low, v.high, v.most)
