-- `biomass::ends::on_line` meets its contract: the start and the rise are at most 10^9 in size and d is in its range, so the sum is far from the ends of 64 bits; and it
-- is not negative (`Rising`), so that its cast to an unsigned number is itself.
use Rattle.std.proofs.Common.{◌≡◌, ◌∙◌, subst, ℕ, ◌+◌, ◌*◌, ◌^◌, ◌≤◌, arith, ℤ, pos, ◌+ℤ◌, ◌*ℤ◌, nat_abs, w64, to_z}
use Rattle.powers.specs.Diameter.{units_to_cm, greatest_d}
use Rattle.biomass.proofs.Small.{Small, local, kept, plus, times, numeral, double, natural}
use Rattle.biomass.proofs.ends.on_line.Goals as goal

module _ (c : goal.Start) where
  from_start : Small (pos units_to_cm *ℤ local c.args.start) (pos units_to_cm *ℤ c.args.start) (units_to_cm * 10 ^ 9)
  from_start = times (numeral units_to_cm) (double c.ranges.start c.requires.start_small)

  by_rise : Small (local c.args.rise *ℤ to_z w64 c.args.d) (c.args.rise *ℤ pos c.args.d) (10 ^ 9 * greatest_d)
  by_rise = times (double c.ranges.rise c.requires.rise_small) (natural greatest_d c.requires.d_small tt)

abbrev machine : goal.Start → ℤ
machine c = local (pos units_to_cm *ℤ local c.args.start) +ℤ local (local c.args.rise *ℤ to_z w64 c.args.d)

abbrev most : ℕ
most = units_to_cm * 10 ^ 9 + 10 ^ 9 * greatest_d

sum : (c : goal.Start) → Small (machine c) (pos units_to_cm *ℤ c.args.start +ℤ c.args.rise *ℤ pos c.args.d) most
sum c = plus (kept (from_start c) tt) (kept (by_rise c) tt)

risen : (c : goal.Start) → local (machine c) ≡ pos c.requires.risen
risen c = (kept (sum c) tt).is ∙ c.requires.is

risen_small : (c : goal.Start) → c.requires.risen ≤ most
risen_small c = subst (λ z. nat_abs z ≤ most) c.requires.is (sum c).size

pub overflow_cast-low : goal.overflow_cast-low
overflow_cast-low c = rw (risen c) (tt, record { fits = omega (arith, risen_small c) })

pub returns : goal.returns
returns c = rw (risen c, c.requires.is)
