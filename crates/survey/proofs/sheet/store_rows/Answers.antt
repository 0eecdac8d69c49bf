-- `survey::sheet::store_rows` meets its contract: a row has room right after those that are stored, so that it stands there.
use Rattle.std.proofs.Common.{rules, arith, ◌∙◌}
use Rattle.codec.specs.Bytes.{stored_at}
use Rattle.codec.proofs.Law.Storing.{store_fits}
use Rattle.line.proofs.Law.Row.{length_row}
use Rattle.survey.specs.Sheet.{sheet_bytes}
use Rattle.survey.proofs.Law.Sheet.{stored_one_more}
use Rattle.survey.proofs.sheet.store_rows.Goals as goal

pub loop-i-init : goal.loop-i-init
unfolding stored_at sheet_bytes
loop-i-init c = search rules

pub loop-i-preserved : goal.loop-i-preserved
loop-i-preserved c =
    let one_more = stored_one_more c.args.sheet.now c.args.rows.now c.loop-i.i _ (omega arith) in
    c.store_row.ensures ∙ store_fits c.loop-i.sheet _ _ (omega (arith, length_row)) ∙ rw c.loop-i.invariant one_more
