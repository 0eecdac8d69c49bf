-- `console::read_input` meets its contract: each read puts its bytes after those that came before, and consumes just them.
use Rattle.std.proofs.Common.{◌≡◌, ℕ, ◌+◌, ◌≤◌, List, ◌++◌, length, take, drop, rules, sym, ap, ◌∙◌, subst}
use Rattle.std.specs.Io.KnownBytes.{Consumes}
use Rattle.std.proofs.KnownBytes.{Consumes-trans}
use Rattle.std.proofs.lemmas.List.{take-append-le}
use Rattle.std.proofs.Math.Seq.{take-add, drop_at, length-take-le}
use borrow.Rule.Slice.PartMut.{put_mid, post_of, take_put}
use Rattle.console.proofs.read_input.Goals as goal

-- the bytes before a read's place, and then the n that it put there
joined : (came room n : ℕ) (old new : List ℕ) → came ≤ length old → n ≤ length new → take (came + n) (put_mid came room old new) ≡ take came old ++ take n new
joined came room n old new within fits =
    take-add came n (put_mid came room old new)
    ∙ ap (λ l. l ++ take n (drop came (put_mid came room old new))) (take_put came room old new within)
    ∙ ap (λ l. take came old ++ take n l) (drop_at (take came old) (new ++ post_of came room old) came (length-take-le came old within))
    ∙ ap (λ l. take came old ++ l) (take-append-le n new (post_of came room old) fits)

pub loop-came-preserved : goal.loop-came-preserved
loop-came-preserved g c =
    let at = c.loop-came in
    let read = c.in-Ok.ensures in
    record {
      within = search rules;
      bytes = subst (Consumes _ _) (sym (joined at.came _ c.in-Ok.n at.buffer c.read.new.buf at.invariant.within read.bound.0)) (Consumes-trans _ _ _ _ _ at.invariant.bytes read.bytes.0);
    }
