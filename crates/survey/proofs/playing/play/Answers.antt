-- `survey::playing::play` meets its contract: it begins with the fresh survey. The rest is what `pass_trees` and `step` promise.
use Rattle.std.proofs.Common.{sym, ap, ◌∙◌, arith}
use Rattle.codec.specs.Refusal.{number}
use Rattle.survey.specs.Survey.{fresh}
use Rattle.survey.specs.Playing.{stopped, play}
use Rattle.survey.proofs.Law.Playing.{plays_past_end}
use Rattle.survey.proofs.playing.play.Goals as goal

pub lines-init : goal.lines-init
unfolding fresh play
lines-init c =
    let is = c.requires in
    record { inside = omega arith; not_ended = rw is; plays = rw is }

-- a refused command, at its place
pub returns-in-Err : goal.returns-in-Err
returns-in-Err c =
    let trees = c.pass_trees-at.ensures in
    ap (stopped (number c.in-Err.why)) (omega arith) ∙ sym (c.in-Err.ensures trees.open) ∙ trees.plays ∙ c.loop-next.invariant.plays

-- and after 07 the first byte
pub returns-else-book-at : goal.returns-else-book-at
returns-else-book-at c =
    let trees = c.pass_trees-at.ensures in
    let on = c.in-Ok.ensures trees.open in
    sym (plays_past_end c.args.book.now c.in-Ok.next c.step.new.survey c.if-survey-2.true (omega arith))
    ∙ sym on.2 ∙ trees.plays ∙ c.loop-next.invariant.plays
