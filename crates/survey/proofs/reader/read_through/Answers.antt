-- `survey::reader::read_through` meets its contract: a refusal stops what is reached at its place, and after a command it goes on from the next.
use Rattle.std.proofs.Common.{◌≡◌, ℕ, ◌+◌, ◌<◌, ◌≤◌, List, ◌∷◌, length, sym, ap, ◌∙◌, arith, add-zero}
use Rattle.biomass.specs.Report.{refused, gives}
use Rattle.codec.specs.Reading.{read}
use Rattle.codec.proofs.Law.RoundTrip.{read_moves}
use Rattle.codec.specs.declared.command.Command.{Command}
use Rattle.survey.specs.Reader.{reach}
use Rattle.survey.specs.declared.reader.BookReader.{BookReader}
use Rattle.survey.proofs.Law.Reach.{reach_refused, reach_on}
use Rattle.survey.proofs.reader.read_through.Invariants.{after}
use Rattle.survey.proofs.reader.read_through.Goals as goal

-- where a reader stands
abbrev place : BookReader → ℕ
place reader = reader.at

-- what is read at a place of a book, after n commands: a refusal
module _ (book : List ℕ) (at n : ℕ) where
  stops : {why end : ℕ} → refused why ≡ read book at → end ≡ at → (n, end, why) ≡ after n (reach book at)
  stops {why} is same = rw (reach_refused book at why (sym is), add-zero) (ap (λ (end : ℕ). (n, end, why)) same)

  -- or a command, and the place to go on from
  module _ {r : Command × ℕ} (is : gives r ≡ read book at) where
    moves : (at < r.1) × (r.1 ≤ length book)
    moves = read_moves book at r.0 r.1 (sym is)

    one_more : after (n + 1) (reach book r.1) ≡ after n (reach book at)
    one_more =
        let rest = reach book r.1 in
        let longer : n + 1 + length rest.commands ≡ n + length (r.0 ∷ rest.commands) = omega arith in
        rw (reach_on book at r.0 r.1 (sym is)) (ap (λ (m : ℕ). (m, rest.at, rest.why)) longer)

pub returns-in-Err : goal.returns-in-Err
returns-in-Err c =
    let r = c.in-Err.ensures in
    stops _ _ _ r.answer (ap place r.cursor) ∙ c.loop-why.invariant.same

pub overflow_add-commands : goal.overflow_add-commands
overflow_add-commands c =
    let m = moves _ _ 0 c.in_default.ensures.answer in
    grind (arith, m)

pub loop-why-smaller : goal.loop-why-smaller
loop-why-smaller c =
    let r = c.in_default.ensures in
    let m = moves _ _ 0 r.answer in
    rw r.cursor (omega (arith, m))

pub loop-why-preserved : goal.loop-why-preserved
loop-why-preserved c =
    let r = c.in_default.ensures in
    let m = moves _ _ 0 r.answer in
    rw r.cursor record {
      same_book = c.loop-why.invariant.same_book;
      counted_so_far = omega (arith, m, c.loop-why.invariant.counted_so_far);
      same = one_more _ _ _ r.answer ∙ c.loop-why.invariant.same;
    }
