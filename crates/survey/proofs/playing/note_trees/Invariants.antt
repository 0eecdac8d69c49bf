-- `survey::playing::note_trees` meets its contract: what stands before this place is noted of the line.
use Rattle.std.proofs.Common.{◌-◌, ◌≤◌, length}
use Rattle.survey.specs.Playing.{PlaysOn}
use Rattle.survey.proofs.playing.note_trees.Given as goal

abbrev pub invariant-loop-command : goal.invariant-loop-command
invariant-loop-command l =
    record { onwards : l.from ≤ l.at; inside : l.at ≤ length l.book; plays : PlaysOn l.book l.from l.fn.line l.at l.line }

abbrev pub decreases-loop-command : goal.decreases-loop-command
decreases-loop-command l = length l.book - l.at
