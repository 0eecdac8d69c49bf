-- `survey::sheet::store_rows` meets its contract. The loop's invariant: the first i rows are stored, and nothing else has changed.
use Rattle.std.proofs.Common.{◌≡◌, take}
use Rattle.codec.specs.Bytes.{stored_at}
use Rattle.survey.specs.Sheet.{sheet_bytes}
use Rattle.survey.proofs.sheet.store_rows.Given as goal

abbrev pub invariant-loop-i : goal.invariant-loop-i
invariant-loop-i l = l.sheet ≡ stored_at l.fn.sheet 0 (sheet_bytes (take l.i l.rows))
