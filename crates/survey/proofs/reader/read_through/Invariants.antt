-- `survey::reader::read_through` meets its contract. The loop's invariant: what is reached from here, after the commands that are counted already, is
-- what is reached from where reading started. Each command moves the place on within the book, so that the count is never above the place.
use Rattle.std.proofs.Common.{◌≡◌, ℕ, ◌+◌, ◌-◌, ◌≤◌, length}
use Rattle.survey.specs.Reader.{Reach, reach, counted}
use Rattle.survey.proofs.reader.read_through.Given as goal

-- what is reached, after so many commands
abbrev pub after : ℕ → Reach → ℕ × ℕ × ℕ
after n r = (n + length r.commands, r.at, r.why)

abbrev pub invariant-loop-why : goal.invariant-loop-why
invariant-loop-why l = record {
  same_book : l.reader.book.now ≡ l.book;
  counted_so_far : l.commands ≤ l.reader.at;
  same : after l.commands (reach l.reader.book.now l.reader.at) ≡ counted (reach l.fn.book l.fn.from);
}

abbrev pub decreases-loop-why : goal.decreases-loop-why
decreases-loop-why l = length l.reader.book.now - l.reader.at
