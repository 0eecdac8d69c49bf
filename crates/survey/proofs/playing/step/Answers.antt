-- `survey::playing::step` meets its contract: a command that is taken moves on within the book, and one that is refused stops it there.
use Rattle.std.proofs.Common.{◌≡◌, ℕ, Result, Err, sym, subst, arith}
use Rattle.codec.specs.declared.refusal.Refusal.{Refusal}
use Rattle.survey.specs.declared.survey.Survey.{Survey}
use Rattle.survey.specs.Playing.{Steps}
use Rattle.survey.proofs.Law.Playing.{plays_applied, plays_told, plays_unread}
use Rattle.survey.proofs.playing.step.Goals as goal

-- by what is known of the answer
by_answer : (book : _) (at : ℕ) (s t : Survey) {r : Result ℕ Refusal} (why : Refusal) → r ≡ Err why → Steps book at s (Err why) t → Steps book at s r t
by_answer book at s t why is told = subst (λ (r : Result ℕ Refusal). Steps book at s r t) (sym is) told

pub returns-in_err-command : goal.returns-in_err-command
returns-in_err-command c =
    by_answer _ _ _ _ c.in_err-command.field-0.0 (grind arith) (λ not_ended. plays_unread _ _ _ _ not_ended (grind arith))

pub returns-in_err-take : goal.returns-in_err-take
returns-in_err-take c =
    by_answer _ _ _ _ c.in_err-take.field-0.0 (grind arith)
    (λ not_ended. plays_told _ _ _ {c = c.in_ok-command.command} {next = c.in_ok-command.next} {t = c.take.new.self} _ not_ended (grind arith) (grind arith))

pub returns : goal.returns
returns c = λ not_ended.
    let on = plays_applied _ _ _ {c = c.in_ok-command.command} {t = c.take.new.self} not_ended (grind arith) (grind arith) in
    (on.moves, on.inside, on.plays)
