-- `console::print_of_book` meets its contract: what came is printed where it is not too long, and the line that says so where it is.
use Rattle.std.proofs.Common.{◌≡◌, take, rules}
use Rattle.console.proofs.print_of_book.Goals.{in-Ok, in-Err}
use Rattle.console.proofs.print_of_book.Goals as goal

pub returns : goal.returns
returns g c = let came = take c.read_input-n.result c.read_input-n.new.buffer in elim c.match-book.branch [
  | in-Ok w ↦ let same : w.in-Ok.book.now ≡ came = search rules in (_, c.match-book.output, c.read_input-n.ensures.bytes, λ fits. (w.print.result, rw (w.output-is, ← same) w.print.ensures), search rules, search rules)
  | in-Err w ↦ (_, c.match-book.output, c.read_input-n.ensures.bytes, search rules, search rules, search rules)
]
