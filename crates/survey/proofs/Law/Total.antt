-- What totalling can answer, of any book and any sheet: what playing the book comes to; and where it is refused, 16, or what the book itself
-- is refused with (Law.Playing).
use Rattle.std.specs.Prelude.{ℕ, ◌≡◌, refl, Bool, true, false, cond, List, [], ◌∷◌}
use Rattle.std.proofs.Common.{arith, sym, ap, subst}
use Rattle.survey.specs.AsWritten.{as_written, is_in}
use Rattle.survey.specs.Playing.{Played, ended, stopped, play_by, play}
use Rattle.survey.specs.Total.{Answer, refused_at, totalled, short, answer_of, answer_into, total, stored_by, stored_into, sheet_after}
use Rattle.survey.proofs.Law.Named.{in_other}
use Rattle.survey.proofs.Law.Playing.{in_the_book, Stop, stop_cases, play_stops, play_as_written}

-- "a book is accepted exactly when those rules accept it" (demand 2): totalling is defined by the papers' text, and playing the book by `apply`, with the
-- checks that it has besides, comes to the same answer and the same sheet
pub total_applied : (book sheet : List ℕ) → total book sheet ≡ answer_into sheet (play book)
unfolding total
total_applied book sheet = ap (answer_into sheet) (sym (play_as_written book))

pub sheet_applied : (book sheet : List ℕ) → sheet_after book sheet ≡ stored_into sheet (play book)
unfolding sheet_after
sheet_applied book sheet = ap (stored_into sheet) (sym (play_as_written book))

-- what holds of 16, and of whatever the book is played to, holds of the answer
pub of_answer : (book sheet : List ℕ) (P : Answer → Type 0) → P (refused_at 16 0) → ((p : Played) → play book ≡ p → P (answer_of p)) → P (total book sheet)
of_answer book sheet P of_16 of_played = subst P (sym (total_applied book sheet)) (by_length (short sheet))
  where
    by_length : (too_short : Bool) → P (cond too_short (refused_at 16 0) (answer_of (play book)))
    by_length true = of_16
    by_length false = of_played (play book) refl

-- "The sheet keeps every byte" where the book is refused, whatever for
pub refused_keeps : (book sheet : List ℕ) (n at : ℕ) → total book sheet ≡ refused_at n at → sheet_after book sheet ≡ sheet
unfolding total sheet_after
refused_keeps book sheet n at = by_cases (short sheet) (play_by as_written book)
  where
    by_cases : (too_short : Bool) (p : Played) → cond too_short (refused_at 16 0) (answer_of p) ≡ refused_at n at
        → cond too_short sheet (stored_by sheet p) ≡ sheet
    by_cases true p e = refl
    by_cases false (stopped m place) e = refl
    by_cases false (ended s) e = let clash : ◌≡◌ {A = ℕ} 0 1 = cc in absurd (omega arith)

-- ---- the refusals of totalling

-- the numbers of reading and of applying, and 16. 4 is of writing alone
abbrev pub of_totalling : List ℕ
of_totalling = 1 ∷ 2 ∷ 3 ∷ 5 ∷ 6 ∷ 7 ∷ 8 ∷ 9 ∷ 10 ∷ 11 ∷ 12 ∷ 13 ∷ 14 ∷ 15 ∷ 16 ∷ 17 ∷ []

abbrev Named : Answer → Type 0
Named (refused_at n at) = is_in n of_totalling ≡ true
Named (totalled t) = Unit

played_named : (book : List ℕ) (p : Played) → play book ≡ p → Named (answer_of p)
played_named book (ended s) e = tt
played_named book (stopped n at) e =
    stop_cases (play_stops book n at e) (λ one end. ap (λ (m : ℕ). is_in m of_totalling) one) (λ other before. in_other n in_the_book of_totalling refl other)

-- never with 0, which would stand for acceptance, nor with 4, nor with a number that document 01 does not have
pub refusals_of_totalling : (book sheet : List ℕ) (n at : ℕ) → total book sheet ≡ refused_at n at → is_in n of_totalling ≡ true
refusals_of_totalling book sheet n at e = subst Named e (of_answer book sheet Named refl (played_named book))

-- ---- their places

-- 16 has place 0; 1 has the book's length, and any other number the place of one of the book's bytes (Law.Playing: Stop)
pub data Placed (book : List ℕ) (n at : ℕ) : Type 0 where
  short_sheet : n ≡ 16 → at ≡ 0 → Placed book n at
  by_book : Stop book n at → Placed book n at

abbrev AnswerPlaced : List ℕ → Answer → Type 0
AnswerPlaced book (refused_at n at) = Placed book n at
AnswerPlaced book (totalled t) = Unit

played_placed : (book : List ℕ) (p : Played) → play book ≡ p → AnswerPlaced book (answer_of p)
played_placed book (ended s) e = tt
played_placed book (stopped n at) e = by_book (play_stops book n at e)

pub place_of_refusal : (book sheet : List ℕ) (n at : ℕ) → total book sheet ≡ refused_at n at → Placed book n at
place_of_refusal book sheet n at e = subst (AnswerPlaced book) e (of_answer book sheet (AnswerPlaced book) (short_sheet refl refl) (played_placed book))
