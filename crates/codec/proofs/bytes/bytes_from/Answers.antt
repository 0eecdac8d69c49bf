-- `codec::bytes::bytes_from` meets its contract: each iteration adds the byte at its place to those before it.
use Rattle.std.proofs.Common.{◌≡◌, ℕ, ◌+◌, ◌∙◌, ap, arith}
use Rattle.std.proofs.lemmas.List.Edits.{fill_by_more}
use Rattle.std.proofs.lemmas.Grind.{common_steps}
use Rattle.codec.specs.Bytes.{byte}
use Rattle.codec.proofs.bytes.bytes_from.Goals as goal

pub loop-i-preserved : goal.loop-i-preserved
loop-i-preserved g c =
    let at_place = λ (k : ℕ). byte c.args.s.now (c.args.at + k) in
    let there : c.byte.result ≡ at_place c.loop-i.i = c.byte.ensures ∙ c.rest-rest.ensures _ ∙ ap (byte c.args.s.now) (omega arith) in
    record {
      long = grind (arith, common_steps);
      filled = rw there (fill_by_more at_place c.loop-i.all c.loop-i.i 0 (grind arith) c.loop-i.invariant.filled);
    }
