-- "11 32 lines opened", "11 over the limit": the number 11 is told only at the limit, of any survey, valid or not. Every other number that a
-- command is declined with is another one.
use Rattle.std.specs.Prelude.{ℕ, ◌+◌, ◌≤◌, ◌<◌, ◌≡◌, refl, false, Option, Some, IsSomeAnd, eqb}
use Rattle.std.proofs.lemmas.Bool.{false≢true, eqb-false}
use Rattle.std.proofs.Common.{sym, subst, leb-true, leb-false}
use Rattle.biomass.specs.Report.{refused}
use Rattle.biomass.specs.Limits.{most_measured, most_heights}
use Rattle.biomass.proofs.Law.Declines.{Declines}
use Rattle.survey.specs.Survey.{declare, give_factor, open_line, give_small, end}
use Rattle.rules.specs.Checks.{most_lines}
use Rattle.survey.specs.Apply.{apply_measured, apply_height, apply_close, apply}
use Rattle.line.specs.Line.{add_small}
use Rattle.line.specs.AnyLine.{add_trees, add_height}
use Rattle.survey.specs.Valid.{Valid}
use Rattle.survey.proofs.Law.Named.{refusals, line_row_declines, only_named}
use Rattle.codec.specs.declared.command.Command.{Command}
use Rattle.line.specs.declared.line.Line.{Line}
use Rattle.survey.specs.declared.survey.Survey.{Survey}

-- the limit that each command may meet, of the survey or of its open line; the others meet none
abbrev pub AtLimit : Command → Survey → Type 0
AtLimit (Command.Species id species) s = ⊥
AtLimit (Command.Factor cm factor) s = ⊥
AtLimit (Command.Open stratum species p q) s = most_lines ≤ s.closed
AtLimit (Command.Measured class count) s = IsSomeAnd s.line (λ l. most_measured < l.tally.n + count)
AtLimit (Command.Height cm tenths) s = IsSomeAnd s.line (λ l. most_heights ≤ l.heights.number)
AtLimit Command.Close s = most_lines ≤ s.closed
AtLimit Command.End s = ⊥
AtLimit (Command.Small carbon count) s = ⊥

-- a number that is 11 only where X holds: 11 itself there, and any other number
record Eleven (X : Type 0) (n : ℕ) : Type 0 where
  holds : n ≡ 11 → X

at_limit : {X : Type 0} → X → Eleven X 11
at_limit x = record { holds = λ is. x }

-- so of the open line
line_at_limit : (s : Survey) (l : Line) (P : Line → Type 0) → s.line ≡ Some l → P l → Eleven (IsSomeAnd s.line P) 11
line_at_limit s l P is_open x = at_limit (subst (λ (o : Option Line). IsSomeAnd o P) (sym is_open) x)

other : (X : Type 0) (n : ℕ) → eqb n 11 ≡ false → Eleven X n
other X n e = record { holds = λ is. absurd (eqb-false n 11 e is) }

ruleset limits = (refusals, other, line_at_limit, at_limit, leb-true, leb-false)

eleven_told : (c : Command) (s : Survey) → Declines (Eleven (AtLimit c s)) (apply c s)
unfolding declare give_factor open_line apply_measured add_trees apply_height add_height apply_close end give_small add_small
eleven_told (Command.Species id species) s = search limits depth 20
eleven_told (Command.Factor cm factor) s = search limits depth 20
eleven_told (Command.Open stratum species p q) s = search limits depth 20
eleven_told (Command.Measured class count) s = search limits depth 20
eleven_told (Command.Height cm tenths) s = search limits depth 20
eleven_told Command.Close s = search (limits, line_row_declines) depth 20
eleven_told Command.End s = search limits depth 20
eleven_told (Command.Small carbon count) s = search limits depth 20

pub limit_told : (c : Command) (s : Survey) → apply c s ≡ refused 11 → AtLimit c s
limit_told c s e = (eleven_told c s 11 e).holds refl

-- the papers name no 11 for closing, so that no valid survey gets it there
pub close_never : (s : Survey) → Valid s → apply_close s ≡ refused 11 → ⊥
close_never s v e = false≢true (only_named Command.Close s 11 v e)
