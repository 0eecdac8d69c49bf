-- `console::read_input` ends, since each turn but the last reads a byte at least; what came so far stands at the buffer's start.
use Rattle.std.proofs.Common.{length, ◌-◌, ◌≤◌, take}
use Rattle.std.specs.Io.KnownBytes.{Consumes}
use Rattle.console.proofs.read_input.Given as goal

abbrev pub invariant-loop-came : goal.invariant-loop-came
invariant-loop-came g l = record {
  within : l.came ≤ length l.buffer;
  bytes : Consumes (g.R.Read.remaining l.initial.input) (g.R.Read.remaining l.input) (take l.came l.buffer);
}

abbrev pub decreases-loop-came : goal.decreases-loop-came
decreases-loop-came g l = length l.initial.buffer - l.came
