-- `line::row::store_row` meets its contract: a row that does not fit leaves the sheet as it was.
use Rattle.std.proofs.Common.{◌∙◌, sym, arith}
use Rattle.codec.proofs.Law.Storing.{store_fits, store_full}
use Rattle.line.proofs.Law.Row.{length_row}
use Rattle.line.proofs.row.store_row.Goals as goal

pub returns-then-sheet-lt-ROW_LENGTH : goal.returns-then-sheet-lt-ROW_LENGTH
returns-then-sheet-lt-ROW_LENGTH c = store_full _ _ _ (omega (arith, length_row c.args.row))

pub returns-then-sheet-at : goal.returns-then-sheet-at
returns-then-sheet-at c = store_full _ _ _ (omega (arith, length_row c.args.row))

pub returns : goal.returns
returns c = c.store_figures.ensures ∙ sym (store_fits _ _ _ (omega (arith, length_row c.args.row)))
