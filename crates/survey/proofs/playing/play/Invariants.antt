-- `survey::playing::play` meets its contract: playing on from here comes to what playing the whole book comes to.
use Rattle.std.proofs.Common.{◌≡◌, ◌-◌, ◌≤◌, false, length}
use Rattle.survey.specs.Playing.{play_from, play}
use Rattle.survey.proofs.playing.play.Given as goal

abbrev pub invariant-loop-next : goal.invariant-loop-next
invariant-loop-next l = record {
  onwards : l.initial.at ≤ l.at;
  inside : l.at ≤ length l.book;
  not_ended : l.survey.ended ≡ false;
  plays : play_from l.book l.at l.survey ≡ play l.book;
}

abbrev pub decreases-loop-next : goal.decreases-loop-next
decreases-loop-next l = length l.book - l.at

abbrev pub invariant-lines : goal.invariant-lines
invariant-lines l = record { inside : l.at ≤ length l.book; not_ended : l.survey.ended ≡ false; plays : play_from l.book l.at l.survey ≡ play l.book }

abbrev pub decreases-lines : goal.decreases-lines
decreases-lines l = length l.book - l.at
