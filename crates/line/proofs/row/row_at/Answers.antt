-- `line::row::row_at` meets its contract: past the end every byte is 0, as at the end.
use Rattle.std.proofs.Common.{◌∙◌, arith}
use Rattle.line.proofs.Law.Row.{row_past_end}
use Rattle.line.proofs.row.row_at.Goals as goal

pub returns-then-sheet-at : goal.returns-then-sheet-at
returns-then-sheet-at c = c.row_from.ensures ∙ row_past_end _ _ (omega arith)
