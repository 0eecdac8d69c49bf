-- `crown_power` meets its contract: on the curve it looks the power up in the table, where w stands (proofs/Power.antt).
use Rattle.std.proofs.Common.{◌∙◌, refl, sym, arith}
use Rattle.powers.proofs.Law.Crown.{tabled_is_w}
use Rattle.powers.proofs.Power.{power_is_w}
use Rattle.powers.proofs.crown.crown_power.Goals as goal

pub returns-in-700-to-5000 : goal.returns-in-700-to-5000
returns-in-700-to-5000 c = c.from.ensures ∙ power_is_w c.args.d (omega arith) (omega arith) ∙ sym (tabled_is_w refl (omega arith) (omega arith))
