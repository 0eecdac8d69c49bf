-- `survey::survey::Survey::take_closing` meets its contract: where none of the checks declines, the row that the line leaves is kept, and counted.
use Rattle.std.proofs.Common.{◌≡◌, ◌<◌, ◌+◌, ℕ, set, Bool, true, false, Some, None, arith, refl, sym, ap, ◌∙◌}
use Rattle.std.proofs.lemmas.Bool.{lt-leb}
use Rattle.std.specs.Option.{option_copied}
use Rattle.biomass.specs.Report.{gives, when, leaves}
use Rattle.line.specs.AnyLine.{line_row}
use Rattle.line.specs.declared.line.Line.{Line}
use Rattle.line.specs.declared.row.Row.{Row}
use Rattle.rules.specs.Checks.{most_lines}
use Rattle.survey.specs.Survey.{with_state, with_rows}
use Rattle.survey.specs.Apply.{apply_close}
use Rattle.survey.specs.declared.survey.Survey.{Survey}
use Rattle.survey.proofs.survey.Survey.take_closing.Goals as goal

not_ended : (b : Bool) → gives (tt {0}) ≡ when b 5 (gives (tt {0})) → b ≡ false
not_ended true e = cc
not_ended false e = refl

-- with so many rows then
closes : (s : Survey) (l : Line) (r : Row) {n : ℕ} → s.ended ≡ false → s.line ≡ Some l → gives r ≡ line_row s.factors l → s.closed < most_lines
    → n ≡ s.closed + 1 → gives (with_rows (with_state s None s.ended) (set s.rows s.closed r) n) ≡ apply_close s
unfolding apply_close
closes s l r on is_open leaves_row room one_more = rw (on, is_open, ← leaves_row, lt-leb most_lines s.closed room, one_more)

pub returns : goal.returns
returns c =
    let is_open = sym c.as_ref.ensures.value ∙ ap option_copied c.in_ok-line.ensures.ok_part in
    ap (leaves c.args.self.now)
    (closes c.args.self.now _ c.in_ok-row.row (not_ended _ c.in_ok-unless_ended.ensures) is_open c.in_ok-row.ensures c.if-place-ge-MOST_LINES.false
    (omega arith))
