-- `survey::playing::note_trees` meets its contract: each command that is noted of the line is noted of every survey whose open line it is, and one that is
-- refused leaves the line as it was.
use Rattle.std.proofs.Common.{◌≡◌, ℕ, sym, ap, ap₂, ◌∙◌, subst, arith}
use Rattle.biomass.specs.Report.{report, gives, after}
use Rattle.codec.specs.Refusal.{number}
use Rattle.codec.specs.Reading.{read}
use Rattle.codec.specs.declared.command.Command.{Command}
use Rattle.line.specs.AnyLine.{add_trees, add_height}
use Rattle.line.specs.declared.line.Line.{Line}
use Rattle.survey.specs.Playing.{PlaysOn}
use Rattle.survey.proofs.Law.Playing.{plays_on_itself, NotedOn, measured_on, height_on, line_kept}
use Rattle.survey.proofs.playing.note_trees.Goals as goal
use Rattle.survey.proofs.playing.note_trees.Goals.{Else-is_err, Then-is_err, in-Measured, in-Height}

pub loop-command-init : goal.loop-command-init
loop-command-init c = record { onwards = omega arith; inside = omega (arith, c.requires); plays = plays_on_itself c.args.book.now c.args.from c.args.line.now }

pub returns-in_default-command : goal.returns-in_default-command
returns-in_default-command c =
    let noted_to = PlaysOn c.args.book.now c.args.from c.args.line.now in
    record {
      place = (omega arith, omega arith);
      plays = subst (λ (k : ℕ). noted_to k c.loop-command.line) (omega arith) c.loop-command.invariant.plays;
    }

pub returns-clause-place : goal.returns-clause-place
returns-clause-place c = (c.loop-command.invariant.onwards, c.loop-command.invariant.inside)

pub returns-clause-plays : goal.returns-clause-plays
returns-clause-plays c = c.loop-command.invariant.plays

-- a command that is noted
noted : (c : Else-is_err)
    → NotedOn c.args.book.now c.args.from c.loop-command.at c.args.line.now c.in-Ok.next c.match-command.line
noted c =
    let reads : read c.args.book.now c.loop-command.at ≡ gives (c.in-Ok.command, c.in-Ok.next) = sym c.read_of_line.ensures ∙ ap (report number) c.in-Ok.is in
    let next : Command → _ = λ k. gives (k, c.in-Ok.next) in
    elim c.match-command.branch [
      | in-Measured w ↦
          measured_on _ _ _ _ c.loop-command.line _ _ c.loop-command.invariant.plays c.match-command.noted (reads ∙ ap next w.in-Measured.is)
          (sym c.is_err.ensures.value ∙ c.if-is_err.false) (ap₂ (after number) w.noted-is w.line-is ∙ w.add_trees-noted.ensures)
      | in-Height w ↦
          height_on _ _ _ _ c.loop-command.line _ _ c.loop-command.invariant.plays c.match-command.noted (reads ∙ ap next w.in-Height.is)
          (sym c.is_err.ensures.value ∙ c.if-is_err.false) (ap₂ (after number) w.noted-is w.line-is ∙ w.add_height-noted.ensures)
    ]

pub loop-command-smaller : goal.loop-command-smaller
loop-command-smaller c = let n = noted c in omega (arith, n.moves, n.inside)

pub loop-command-preserved : goal.loop-command-preserved
loop-command-preserved c =
    let n = noted c in
    record { onwards = omega (arith, n.moves, c.loop-command.invariant.onwards); inside = n.inside; plays = n.plays }

-- and one that is refused
line_is : (c : Then-is_err) → c.match-command.line ≡ c.loop-command.line
line_is c =
    elim c.match-command.branch [
      | in-Measured w ↦
          line_kept c.match-command.noted _ _ (add_trees w.in-Measured.class w.in-Measured.count c.loop-command.line)
          (sym c.is_err.ensures.value ∙ c.if-is_err.true) (ap₂ (after number) w.noted-is w.line-is ∙ w.add_trees-noted.ensures)
      | in-Height w ↦
          line_kept c.match-command.noted _ _ (add_height w.in-Height.cm w.in-Height.tenths c.loop-command.line)
          (sym c.is_err.ensures.value ∙ c.if-is_err.true) (ap₂ (after number) w.noted-is w.line-is ∙ w.add_height-noted.ensures)
    ]

pub returns-then-is_err-clause-place : goal.returns-then-is_err-clause-place
returns-then-is_err-clause-place c = (c.loop-command.invariant.onwards, c.loop-command.invariant.inside)

pub returns-then-is_err-clause-plays : goal.returns-then-is_err-clause-plays
returns-then-is_err-clause-plays c =
    subst (λ (l : Line). PlaysOn c.args.book.now c.args.from c.args.line.now c.loop-command.at l) (sym (line_is c)) c.loop-command.invariant.plays
