-- `survey::total::total` meets its contract: its test is the definition's, and then what playing the book came to decides. Demand 3 holds of what is
-- answered, whatever it is, and what Q-4 lets a user read (Law.Promise).
use Rattle.std.proofs.Common.{◌≡◌, ℕ, ◌≤◌, ◌<◌, List, length, refl, sym, ap, subst, subst₂, ◌∙◌, rules, arith, lt-ltb, le-ltb}
use Rattle.codec.specs.Bytes.{stored_at}
use Rattle.line.specs.declared.row.Row.{Row}
use Rattle.survey.specs.Bounds.{FewSmall}
use Rattle.survey.specs.Playing.{Played, ended, stopped, play}
use Rattle.survey.specs.Survey.{rows_of}
use Rattle.survey.specs.Sheet.{sheet_length, sheet_bytes}
use Rattle.survey.specs.Total.{Answer, refused_at, totalled, total_of, answer_of, total, stored_by, sheet_after}
use Rattle.survey.specs.Promise.{Promised}
use Rattle.survey.proofs.Law.Playing.{play_valid}
use Rattle.survey.proofs.Law.Sheet.{rows_at_most}
use Rattle.survey.proofs.Law.Total.{total_applied, sheet_applied}
use Rattle.survey.proofs.Law.Demand3.{rows_small}
use Rattle.survey.proofs.Law.Promise.{kept_promise}
use Rattle.survey.specs.declared.survey.Survey.{Survey}
use Rattle.survey.specs.declared.total.Totals.{Totals}
use Rattle.survey.proofs.total.total.Goals as goal

-- the survey at the end of a book is valid, so that its rows are few and small
few_small : (book : List ℕ) {s : Survey} {rows : List Row} → ended s ≡ play book → rows ≡ rows_of s → FewSmall rows
few_small book {s} is are =
    let v = play_valid book s (sym is) in
    subst FewSmall (sym are) (record { few = rows_at_most s v; small = rows_small s v })

module _ (book sheet : List ℕ) where
  -- so of what is answered, and of the sheet as it then is
  promised : {r : Answer} {x : List ℕ} → r ≡ total book sheet → x ≡ sheet_after book sheet → Promised book sheet r x
  promised answer laid = subst₂ (Promised book sheet) (sym answer) (sym laid) (kept_promise book sheet)

  -- with no room in the sheet
  no_room : length sheet < sheet_length → Promised book sheet (refused_at 16 0) sheet
  unfolding total sheet_after
  no_room h = promised (rw lt-ltb) (rw lt-ltb)

  -- with room: a refusal leaves the sheet as it was, and at the end the rows are stored
  module _ (enough : sheet_length ≤ length sheet) where
    by_playing : {q : Played} {a : Answer} {x : List ℕ} → q ≡ play book → a ≡ answer_of q → x ≡ stored_by sheet q → Promised book sheet a x
    by_playing is answer laid =
        promised (answer ∙ ap answer_of is ∙ rw (total_applied book sheet, le-ltb))
        (laid ∙ ap (stored_by sheet) is ∙ rw (sheet_applied book sheet, le-ltb))

    refuses : {n at : ℕ} {a : Answer} → stopped n at ≡ play book → a ≡ refused_at n at → Promised book sheet a sheet
    refuses is answer = by_playing is answer refl

    accepts : {s : Survey} {rows : List Row} {t : Totals} {x : List ℕ} → ended s ≡ play book → rows ≡ rows_of s → t ≡ total_of rows
        → x ≡ stored_at sheet 0 (sheet_bytes rows) → Promised book sheet (totalled t) x
    accepts is are totals laid = by_playing is (ap totalled totals ∙ rw are refl) (laid ∙ rw are refl)

pub returns-then-sheet-lt-SHEET_LENGTH-clause-promise : goal.returns-then-sheet-lt-SHEET_LENGTH-clause-promise
returns-then-sheet-lt-SHEET_LENGTH-clause-promise c = search (rules, no_room)

pub returns-in_err-play-clause-promise : goal.returns-in_err-play-clause-promise
returns-in_err-play-clause-promise c = refuses _ _ (omega arith) c.in_err-play.ensures (search rules)

pub total_rows-requires : goal.total_rows-requires
total_rows-requires c = (few_small c.args.book.now c.in_ok-play.ensures c.closed_rows.ensures, omega arith)

pub returns-clause-promise : goal.returns-clause-promise
returns-clause-promise c = accepts _ _ (omega arith) c.in_ok-play.ensures c.closed_rows.ensures c.total_rows.ensures.totals c.total_rows.ensures.stored
