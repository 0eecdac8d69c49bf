-- Playing a book: each command that is taken moves on within the book, so that playing comes to an end and stops nowhere but in the book or at its
-- end: with 1 at the end, and before it with another number of reading or one of applying (Law.Named). What every command keeps is kept to the end of
-- the book; so every survey that a book comes to is valid (Law.Valid), each command does just what the papers' text says (Law.AsWritten), and the
-- whole book comes to what the text makes of it. What the bytes of a list of commands play to is what the commands do, since each is read back as it
-- was written (Law.RoundTrip).
use Prim.Native.Nat.{ℕ, zero, suc, ◌+◌, ◌≤◌, ◌<◌}
use Rattle.std.proofs.Common.{lt_of_not-le, arith, ◌∙◌, sym, length-append, lt-ltb, le-ltb, ltb-true, ltb-false}
use Rattle.std.proofs.Math.Decide.{dec_le}
use Rattle.std.specs.Result.{is_err}
use Rattle.std.specs.Prelude.{◌≡◌, Bool, true, false, Option, None, Some, Result, Ok, Err, List, [], ◌∷◌, ◌++◌, length, ltb}
use Rattle.std.proofs.Math.Path.{refl, ap, ap₂, subst}
use Rattle.std.proofs.Math.Bool.{cond}
use Rattle.std.proofs.lemmas.Bool.{false≢true}
use Rattle.biomass.specs.Report.{Report, refused, gives, when, ◌then◌, given, leaves, after}
use Rattle.biomass.proofs.Law.Gives.{made, figure_is, number_is}
use Rattle.biomass.proofs.Law.Declines.{Declines, gives_declines, then_declines}
use Rattle.biomass.proofs.Law.SameChecks.{then_same, then_then}
use Rattle.codec.specs.Command.{encode}
use Rattle.codec.specs.Reading.{read}
use Rattle.survey.specs.Reader.{encode_all, reach}
use Rattle.survey.specs.Survey.{fresh, with_state, with_line}
use Rattle.survey.specs.AsWritten.{as_written, is_in}
use Rattle.survey.specs.Apply.{on_line, apply_measured, apply_height, apply, reached}
use Rattle.line.specs.AnyLine.{add_trees, add_height}
use Rattle.line.specs.declared.line.Line.{Line}
use Rattle.survey.specs.Valid.{Valid}
use Rattle.survey.specs.Playing.{Played, ended, stopped, taken_to, step_by, step, met, after_end, play_up_to_by, play_up_to, play_from, play_by, play, play_list_by, PlaysOn}
use Rattle.codec.proofs.Law.Bytes.{Stands, stands_first, stands_second, stands_itself}
use Rattle.codec.proofs.Law.RoundTrip.{read_at_end, read_encoded, read_moves}
use Rattle.survey.proofs.Law.Reach.{read_declines, reach_refused, reach_on, AllFit, none, and_next}
use Rattle.survey.proofs.Law.Valid.{fresh_valid, apply_valid}
use Rattle.survey.proofs.Law.AsWritten.{as_written_lem}
use Rattle.survey.proofs.Law.Named.{of_applying, in_other, refusal_of_applying, is_taken, is_refused, is_kept, ended_refuses}
use Rattle.codec.specs.declared.command.Command.{Command}
use Rattle.codec.specs.Refusal.{number}
use Rattle.codec.specs.declared.refusal.Refusal.{Refusal}
use Rattle.survey.specs.declared.survey.Survey.{Survey}

-- ---- one command

-- a command that was read and applied, taken apart
pub record ReadAndApplied (book : List ℕ) (at : ℕ) (s t : Survey) (next : ℕ) : Type 0 where
  pub command : Command
  pub is_read : read book at ≡ gives (command, next)
  pub is_applied : apply command s ≡ gives t

pub read_and_applied : (book : List ℕ) (at : ℕ) (s t : Survey) (next : ℕ) → step book at s ≡ gives (t, next) → ReadAndApplied book at s t next
unfolding step_by
read_and_applied book at s t next e =
    let r = made (read book at) _ e in
    let a = made (apply r.figure.0 s) _ r.next in
    subst (λ (x : Survey × ℕ). ReadAndApplied book at s x.0 x.1) (figure_is a.next)
    (record { command = r.figure.0; is_read = r.gave; is_applied = a.gave })

-- a command that is read and applied ends past its place and within the book
pub step_moves : (book : List ℕ) (at : ℕ) (s t : Survey) (next : ℕ) → step book at s ≡ gives (t, next) → (at < next) × (next ≤ length book)
step_moves book at s t next e = let k = read_and_applied book at s t next e in read_moves book at k.command next k.is_read

-- and leaves a valid survey valid
pub step_valid : (book : List ℕ) (at : ℕ) (s t : Survey) (next : ℕ) → Valid s → step book at s ≡ gives (t, next) → Valid t
step_valid book at s t next v e = let k = read_and_applied book at s t next e in apply_valid k.command s t v k.is_applied

-- ---- how playing goes on from a place

met_same : {A : Type 0} (at : ℕ) (r : Report A) (f g : A → Played) → ((a : A) → r ≡ gives a → f a ≡ g a) → met at r f ≡ met at r g
met_same at (refused n) f g h = refl
met_same at (gives a) f g h = h a refl

-- from a place in the book or at its end, any number of commands above that of the bytes left is enough, since each takes a byte at least
pub enough_commands : (book : List ℕ) (at : ℕ) (s : Survey) (m n : ℕ) → at ≤ length book → length book < at + m → length book < at + n
    → play_up_to m book at s ≡ play_up_to n book at s
unfolding play_up_to_by
enough_commands book at s zero n inside m_enough n_enough = absurd (omega arith)
enough_commands book at s (suc m) zero inside m_enough n_enough = absurd (omega arith)
enough_commands book at s (suc m) (suc n) inside m_enough n_enough =
    ap (cond s.ended (after_end book at s)) (met_same at (step book at s) _ _ λ r gave.
    let moves = step_moves book at s r.0 r.1 gave in
    enough_commands book r.1 r.0 m n moves.1 (omega arith) (omega arith))

module _ (book : List ℕ) (at : ℕ) (s : Survey) where
  -- it hangs on whether the book has ended, and on what comes of the next command
  plays_by : {b : Bool} {r : Report (Survey × ℕ)} → s.ended ≡ b → step book at s ≡ r
      → play_from book at s ≡ cond b (after_end book at s) (met at r λ x. play_up_to (length book) book x.1 x.0)
  unfolding play_up_to_by
  plays_by =
      ap₂ (λ (b : Bool) (r : Report (Survey × ℕ)). cond b (after_end book at s) (met at r λ x. play_up_to (length book) book x.1 x.0))

  -- a refused command stops the playing, at its place
  pub plays_refused : (n : ℕ) → s.ended ≡ false → step book at s ≡ refused n → play_from book at s ≡ stopped n at
  plays_refused n not_ended e = plays_by not_ended e

  -- and after one that is taken it goes on
  pub plays_on : (t : Survey) (next : ℕ) → s.ended ≡ false → step book at s ≡ gives (t, next) → play_from book at s ≡ play_from book next t
  plays_on t next not_ended e =
      let moves = step_moves book at s t next e in
      plays_by not_ended e ∙ enough_commands book next t (length book) (suc (length book)) moves.1 (omega arith) (omega arith)

  -- after 07 there is no byte, or the first is refused
  pub plays_after_end : s.ended ≡ true → play_from book at s ≡ after_end book at s
  plays_after_end is_ended = plays_by is_ended refl

  -- a book that has ended is played where no byte is left
  pub plays_end : s.ended ≡ true → length book ≤ at → play_from book at s ≡ ended s
  plays_end is_ended none_left = plays_after_end is_ended ∙ rw le-ltb

  -- and "bytes after 07 get 5 at the first of them"
  pub plays_past_end : s.ended ≡ true → at < length book → play_from book at s ≡ stopped 5 at
  plays_past_end is_ended some_left = plays_after_end is_ended ∙ rw lt-ltb

-- ---- a command that is read at the place

-- from here on in the book, what is played is the same
pub record On (book : List ℕ) (at : ℕ) (s : Survey) (next : ℕ) (t : Survey) : Type 0 where
  pub moves : at < next
  pub inside : next ≤ length book
  pub plays : play_from book at s ≡ play_from book next t

module _ (book : List ℕ) (at : ℕ) (s : Survey) (c : Command) (next : ℕ) (reads : read book at ≡ gives (c, next)) where
  step_applies : {r : Report Survey} → apply c s ≡ r → step book at s ≡ taken_to next r
  unfolding step_by
  step_applies e = ap (λ (r : Report (Command × ℕ)). r then λ x. taken_to x.1 (apply x.0 s)) reads ∙ ap (taken_to next) e

  pub plays_taken : (t : Survey) → s.ended ≡ false → apply c s ≡ gives t → On book at s next t
  plays_taken t not_ended e =
      let takes = step_applies e in
      let moves = step_moves book at s t next takes in
      record { moves = moves.0; inside = moves.1; plays = plays_on book at s t next not_ended takes }

  pub plays_declined : (n : ℕ) → s.ended ≡ false → apply c s ≡ refused n → play_from book at s ≡ stopped n at
  plays_declined n not_ended e = plays_refused book at s n not_ended (step_applies e)

-- and one that is not read
pub plays_unread : (book : List ℕ) (at : ℕ) (s : Survey) (n : ℕ) → s.ended ≡ false → read book at ≡ refused n → play_from book at s ≡ stopped n at
unfolding step_by
plays_unread book at s n not_ended e = plays_refused book at s n not_ended (ap (λ (r : Report (Command × ℕ)). r then λ x. taken_to x.1 (apply x.0 s)) e)

-- by what the code answers of the command: it is taken, or declined
pub plays_applied : (book : List ℕ) (at : ℕ) (s : Survey) {c : Command} {next : ℕ} {t : Survey} → s.ended ≡ false → read book at ≡ gives (c, next)
    → record { left = t; refusal = None } ≡ leaves s (apply c s) → On book at s next t
plays_applied book at s {c} {next} {t} not_ended reads e = plays_taken book at s c next reads t not_ended (is_taken s t (apply c s) e)

pub plays_told : (book : List ℕ) (at : ℕ) (s : Survey) {c : Command} {next : ℕ} {t : Survey} (why : Refusal) → s.ended ≡ false
    → read book at ≡ gives (c, next) → record { left = t; refusal = Some (number why) } ≡ leaves s (apply c s) → play_from book at s ≡ stopped (number why) at
plays_told book at s {c} {next} {t} why not_ended reads e = plays_declined book at s c next reads (number why) not_ended (is_refused s t (apply c s) e)

-- ---- the open line by itself (PlaysOn)

-- a tree is taken of the survey where it is taken of the open line, and refused where it is refused
module _ (book : List ℕ) (at : ℕ) (s : Survey) {l : Line} {next : ℕ} (not_ended : s.ended ≡ false) (is_open : s.line ≡ Some l) where
  noted_step : (c : Command) (note : Line → Report Line) → apply c s ≡ on_line note s → read book at ≡ gives (c, next)
      → step book at s ≡ note l then λ m. gives (with_line s m, next)
  noted_step c note noted reads =
      step_applies book at s c next reads
      (noted ∙ ap₂ (λ (b : Bool) (o : Option Line). when b 5 (given o 10 then λ k. note k then λ m. gives (with_line s m))) not_ended is_open)
      ∙ then_then (λ t. gives (t, next)) (note l) _ _ (λ m taken. refl)

  pub measured_step : {class count : ℕ} → read book at ≡ gives (Command.Measured class count, next)
      → step book at s ≡ add_trees class count l then λ m. gives (with_line s m, next)
  unfolding apply_measured
  measured_step {class} {count} = noted_step (Command.Measured class count) (add_trees class count) refl

  pub height_step : {cm tenths : ℕ} → read book at ≡ gives (Command.Height cm tenths, next)
      → step book at s ≡ add_height cm tenths l then λ m. gives (with_line s m, next)
  unfolding apply_height
  height_step {cm} {tenths} = noted_step (Command.Height cm tenths) (add_height cm tenths) refl

-- nothing is noted yet
pub plays_on_itself : (book : List ℕ) (at : ℕ) (l : Line) → PlaysOn book at l at l
plays_on_itself book at l s not_ended is_open = ap (λ (o : Option Line). play_from book at (with_state s o s.ended)) is_open

-- what the code answers of a tree tells whether it is noted; where it is not, the line is as it was
noted_is : (answer : Result Unit Refusal) (l m : Line) (r : Report Line) → is_err answer ≡ false → after number answer m ≡ leaves l r → r ≡ gives m
noted_is (Ok done) l m r noted e = is_taken l m r e
noted_is (Err why) l m r noted e = absurd (false≢true (sym noted))

pub line_kept : (answer : Result Unit Refusal) (l m : Line) (r : Report Line) → is_err answer ≡ true → after number answer m ≡ leaves l r → m ≡ l
line_kept (Ok done) l m r declined e = absurd (false≢true declined)
line_kept (Err why) l m r declined e = is_kept l m r e

-- one command more is noted
pub record NotedOn (book : List ℕ) (from at : ℕ) (first : Line) (next : ℕ) (m : Line) : Type 0 where
  pub moves : at < next
  pub inside : next ≤ length book
  pub plays : PlaysOn book from first next m

module _ (book : List ℕ) (from at : ℕ) (first l m : Line) (next : ℕ) (before : PlaysOn book from first at l) (answer : Result Unit Refusal) where
  noted_on : (r : Report Line) → ((s : Survey) → s.ended ≡ false → s.line ≡ Some l → step book at s ≡ r then λ k. gives (with_line s k, next))
      → is_err answer ≡ false → after number answer m ≡ leaves l r → NotedOn book from at first next m
  unfolding fresh
  noted_on r steps noted e =
      let on : (s : Survey) → s.ended ≡ false → step book at (with_line s l) ≡ gives (with_line s m, next) = λ s not_ended.
      steps (with_line s l) not_ended refl ∙ ap (λ (q : Report Line). q then λ k. gives (with_line s k, next)) (noted_is answer l m r noted e) in
      let moves = step_moves book at (with_line fresh l) (with_line fresh m) next (on fresh refl) in
      record {
        moves = moves.0;
        inside = moves.1;
        plays = λ s not_ended is_open. before s not_ended is_open ∙ plays_on book at (with_line s l) (with_line s m) next not_ended (on s not_ended);
      }

  pub measured_on : {class count : ℕ} → read book at ≡ gives (Command.Measured class count, next)
      → is_err answer ≡ false → after number answer m ≡ leaves l (add_trees class count l) → NotedOn book from at first next m
  measured_on reads = noted_on _ (λ s not_ended is_open. measured_step book at s not_ended is_open reads)

  pub height_on : {cm tenths : ℕ} → read book at ≡ gives (Command.Height cm tenths, next)
      → is_err answer ≡ false → after number answer m ≡ leaves l (add_height cm tenths l) → NotedOn book from at first next m
  height_on reads = noted_on _ (λ s not_ended is_open. height_step book at s not_ended is_open reads)

-- ---- what a whole book comes to

-- before the end a command is refused with another number of reading, or with one of applying
abbrev pub in_the_book : List ℕ
in_the_book = 2 ∷ 3 ∷ of_applying

step_declines : (book : List ℕ) (at : ℕ) (s : Survey) → at < length book → Declines (λ n. is_in n in_the_book ≡ true) (step book at s)
unfolding step_by
step_declines book at s inside =
    let such : ℕ → Type 0 = λ n. is_in n in_the_book ≡ true in
    then_declines such (read book at) _ (read_declines such book refl refl at (λ out. absurd (omega arith))) (λ r.
    then_declines such (apply r.0 s) _ (λ n e. in_other n of_applying in_the_book refl (refusal_of_applying r.0 s n e)) (λ t.
    gives_declines such (t, r.1)))

-- at the end no command is read
step_at_end : (book : List ℕ) (at : ℕ) (s : Survey) → length book ≤ at → step book at s ≡ refused 1
unfolding step_by
step_at_end book at s none_left = rw read_at_end

-- what a book is refused with, and where: 1 at its end, or another number at one of its bytes
pub data Stop (book : List ℕ) (n at : ℕ) : Type 0 where
  at_end : n ≡ 1 → at ≡ length book → Stop book n at
  in_book : is_in n in_the_book ≡ true → at < length book → Stop book n at

pub stop_cases : {X : Type 0} {book : List ℕ} {n at : ℕ} → Stop book n at → (n ≡ 1 → at ≡ length book → X) →
    (is_in n in_the_book ≡ true → at < length book → X) → X
stop_cases (at_end one end) ends inside = ends one end
stop_cases (in_book other before) ends inside = inside other before

-- a command that is refused is one of the two
step_stops : (book : List ℕ) (at : ℕ) (s : Survey) (n : ℕ) → at ≤ length book → step book at s ≡ refused n → Stop book n at
step_stops book at s n inside e = by_place (dec_le (length book) at)
  where
    by_place : Dec (length book ≤ at) → Stop book n at
    by_place (yes none_left) = at_end (number_is (sym e ∙ step_at_end book at s none_left)) (omega arith)
    by_place (no some_left) = let before : at < length book = lt_of_not-le some_left in in_book (step_declines book at s before n e) before

-- a book that is stopped is not played to its end, and is played to one survey
is_stopped : {X : Type 0} {n at : ℕ} {s : Survey} → stopped n at ≡ ended s → X
is_stopped e = let clash : ◌≡◌ {A = ℕ} 0 1 = cc in absurd (omega arith)

survey_is : {s t : Survey} → ended s ≡ ended t → s ≡ t
survey_is e = cc

-- what holds either way of a test, and whatever comes of a command
module _ (P : Played → Type 0) where
  cond_cases : (test : Bool) (p q : Played) → (test ≡ true → P p) → (test ≡ false → P q) → P (cond test p q)
  cond_cases true p q this other = this refl
  cond_cases false p q this other = other refl

  met_cases : {A : Type 0} (at : ℕ) (r : Report A) (f : A → Played)
      → ((n : ℕ) → r ≡ refused n → P (stopped n at)) → ((a : A) → r ≡ gives a → P (f a)) → P (met at r f)
  met_cases at (refused n) f stops goes_on = stops n refl
  met_cases at (gives a) f stops goes_on = goes_on a refl

-- What every command keeps that is read in the book and taken
module _ (book : List ℕ) (Kept : Survey → Type 0)
    (keeps : (at : ℕ) (s t : Survey) (next : ℕ) → Kept s → step book at s ≡ gives (t, next) → Kept t) where
  -- holds of the survey that the book comes to, which has ended; else the book is refused
  abbrev Comes : Played → Type 0
  Comes (ended s) = Kept s × (s.ended ≡ true)
  Comes (stopped n at) = Stop book n at

  plays_kept : (most at : ℕ) (s : Survey) → Kept s → at ≤ length book → length book < at + most → Comes (play_up_to most book at s)
  unfolding play_up_to_by
  plays_kept zero at s k inside left = absurd (omega arith)
  plays_kept (suc most) at s k inside left =
      cond_cases Comes s.ended _ _
      (λ is_ended.
      cond_cases Comes (ltb at (length book)) _ _ (λ some_left. in_book refl (ltb-true at (length book) some_left)) (λ none_left. (k, is_ended)))
      (λ not_ended.
      met_cases Comes at (step book at s) _ (λ n e. step_stops book at s n inside e) (λ r e.
      let moves = step_moves book at s r.0 r.1 e in
      plays_kept most r.1 r.0 (keeps at s r.0 r.1 k e) moves.1 (omega arith)))

  play_kept : Kept fresh → (p : Played) → play book ≡ p → Comes p
  unfolding play
  play_kept first p e = subst Comes e (plays_kept (suc (length book)) 0 fresh first (omega arith) (omega arith))

  -- is kept to its end
  pub kept_to_the_end : Kept fresh → (s : Survey) → play book ≡ ended s → Kept s
  kept_to_the_end first s e = (play_kept first (ended s) e).0

module _ (book : List ℕ) where
  play_sound : (p : Played) → play book ≡ p → Comes book Valid (step_valid book) p
  play_sound = play_kept book Valid (step_valid book) fresh_valid

  -- every survey that a book is played to is valid, and ended
  pub play_valid : (s : Survey) → play book ≡ ended s → Valid s
  play_valid s e = (play_sound (ended s) e).0

  pub play_ended : (s : Survey) → play book ≡ ended s → s.ended ≡ true
  play_ended s e = (play_sound (ended s) e).1

  pub play_stops : (n at : ℕ) → play book ≡ stopped n at → Stop book n at
  play_stops n at e = play_sound (stopped n at) e

  -- a refusal's place is within the book
  pub place_in_book : (n at : ℕ) → play book ≡ stopped n at → at ≤ length book
  place_in_book n at e = stop_cases (play_stops n at e) (λ one end. omega arith) (λ other before. omega arith)

  -- "1 has the book's length"
  pub end_at_length : (at : ℕ) → play book ≡ stopped 1 at → at ≡ length book
  end_at_length at e = stop_cases (play_stops 1 at e) (λ one end. end) (λ other before. absurd (false≢true other))

  -- and nothing else has it
  pub one_at_length : (n : ℕ) → play book ≡ stopped n (length book) → n ≡ 1
  one_at_length n e = stop_cases (play_stops n (length book) e) (λ one end. one) (λ other before. absurd (omega arith))

  -- any other refusal has the place of a byte of the book
  pub place_of_command : (n at : ℕ) → play book ≡ stopped n at → (n ≡ 1 → ⊥) → at < length book
  place_of_command n at e not_one = stop_cases (play_stops n at e) (λ one end. absurd (not_one one)) (λ other before. before)

-- ---- a book played by the papers' text alone

-- of a valid survey a command that is read does what the text says
step_as_written : (book : List ℕ) (at : ℕ) (s : Survey) → Valid s → step book at s ≡ step_by as_written book at s
unfolding step_by
step_as_written book at s v = then_same (read book at) _ _ λ r. ap (taken_to r.1) (as_written_lem r.0 s v)

-- and each command that is taken leaves a valid survey to the next
plays_as_written : (most : ℕ) (book : List ℕ) (at : ℕ) (s : Survey) → Valid s → play_up_to most book at s ≡ play_up_to_by as_written most book at s
unfolding play_up_to_by
plays_as_written zero book at s v = refl
plays_as_written (suc most) book at s v =
    ap (cond s.ended (after_end book at s)) (
    met_same at (step book at s) _ _ (λ r e. plays_as_written most book r.1 r.0 (step_valid book at s r.0 r.1 v e))
    ∙ ap (λ (r : Report (Survey × ℕ)). met at r λ x. play_up_to_by as_written most book x.1 x.0) (step_as_written book at s v))

-- so each book is played as the text says: to the same survey, or to the same refusal at the same place
pub play_as_written : (book : List ℕ) → play book ≡ play_by as_written book
unfolding play
play_as_written book = plays_as_written (suc (length book)) book 0 fresh fresh_valid

-- ---- a book given as its commands

-- a command that is known to stand there
module _ (book : List ℕ) (at : ℕ) (s : Survey) (c : Command) (next : ℕ) (reads : read book at ≡ gives (c, next)) where
  plays_command : (rest : Survey → Played) → at < length book → ((t : Survey) → play_from book next t ≡ rest t)
      → play_from book at s ≡ met at (apply c s) rest
  plays_command rest inside goes_on = by_ended s.ended refl
    where
      by_ended : (b : Bool) → s.ended ≡ b → play_from book at s ≡ met at (apply c s) rest
      by_ended true is_ended =
          plays_past_end book at s is_ended inside ∙ ap (λ (r : Report Survey). met at r rest) (sym (ended_refuses c s is_ended))
      by_ended false not_ended =
          met_cases (λ p. play_from book at s ≡ p) at (apply c s) rest (λ n e. plays_declined book at s c next reads n not_ended e)
          (λ t e. (plays_taken book at s c next reads t not_ended e).plays ∙ goes_on t)

-- the commands from a place on to the end of the book
plays_list : (book : List ℕ) (at : ℕ) (s : Survey) (cs : List Command) → AllFit cs → Stands (encode_all cs) book at
    → at + length (encode_all cs) ≡ length book → play_from book at s ≡ play_list_by apply cs at s
unfolding encode_all play_list_by
plays_list book at s cs none h ends =
    cond_cases (λ p. play_from book at s ≡ p) s.ended (ended s) (stopped 1 at)
    (λ is_ended. plays_end book at s is_ended (omega arith))
    (λ not_ended. plays_refused book at s 1 not_ended (step_at_end book at s (omega arith)))
plays_list book at s cs (and_next {c} {cs = rest} f fs) h ends =
    let both : length (encode c ++ encode_all rest) ≡ length (encode c) + length (encode_all rest) = length-append (encode c) (encode_all rest) in
    let after = at + length (encode c) in
    let first : read book at ≡ gives (c, after) = read_encoded book at c f (stands_first (encode c) (encode_all rest) h) (omega arith) in
    let moves = read_moves book at c after first in
    plays_command book at s c after first (play_list_by apply rest after) (omega arith) λ t.
    plays_list book after t rest fs (stands_second (encode c) (encode_all rest) h) (omega arith)

-- from a valid survey on, the commands do what the text says
list_as_written : (cs : List Command) (at : ℕ) (s : Survey) → Valid s → play_list_by apply cs at s ≡ play_list_by as_written cs at s
unfolding play_list_by
list_as_written [] at s v = refl
list_as_written (c ∷ cs) at s v =
    met_same at (apply c s) _ _ (λ t e. list_as_written cs (at + length (encode c)) t (apply_valid c s t v e))
    ∙ ap (λ (r : Report Survey). met at r λ t. play_list_by as_written cs (at + length (encode c)) t) (as_written_lem c s v)

-- a book of commands plays as its commands do, one after the other
pub play_of_list : (cs : List Command) → AllFit cs → play_by as_written (encode_all cs) ≡ play_list_by as_written cs 0 fresh
unfolding play
play_of_list cs fs =
    let book = encode_all cs in
    sym (play_as_written book) ∙ plays_list book 0 fresh cs fs (stands_itself book) (omega arith) ∙ list_as_written cs 0 fresh fresh_valid

-- ---- the commands that a book which is accepted reads as are all taken, one after the other

pub data AllTaken : List Command → Survey → Survey → Type 0 where
  none_left : {s : Survey} → AllTaken [] s s
  and_then : {c : Command} {cs : List Command} {s t u : Survey} → apply c s ≡ gives t → AllTaken cs t u → AllTaken (c ∷ cs) s u

takes : (most : ℕ) (book : List ℕ) (at : ℕ) (s t : Survey) → play_up_to most book at s ≡ ended t → AllTaken (reach book at).commands s t
unfolding play_up_to_by
takes zero book at s t = λ e. is_stopped e
takes (suc most) book at s t =
    let Goal : Played → Type 0 = λ p. p ≡ ended t → AllTaken (reach book at).commands s t in
    cond_cases Goal s.ended _ _
    (λ is_ended.
    cond_cases Goal (ltb at (length book)) _ _ (λ some_left e. is_stopped e) (λ none_left_over e.
    rw (reach_refused book at 1 (read_at_end book at (ltb-false at (length book) none_left_over)))
    (subst (AllTaken [] s) (survey_is e) none_left)))
    (λ not_ended.
    met_cases Goal at (step book at s) _ (λ n refuses e. is_stopped e) (λ r gave e.
    let k = read_and_applied book at s r.0 r.1 gave in
    rw (reach_on book at k.command r.1 k.is_read) (and_then k.is_applied (takes most book r.1 r.0 t e))))

pub play_takes : (book : List ℕ) (t : Survey) → play book ≡ ended t → AllTaken (reach book 0).commands fresh t
unfolding play
play_takes book t e = takes (suc (length book)) book 0 fresh t e

-- so that they reach the survey that the book comes to
taken_reaches : {cs : List Command} {s t : Survey} → AllTaken cs s t → reached cs s ≡ t
unfolding reached
taken_reaches none_left = refl
taken_reaches (and_then {c} {cs} {s} e rest) = ap (λ (r : Report Survey). reached cs (leaves s r).left) e ∙ taken_reaches rest

pub play_reaches : (book : List ℕ) (t : Survey) → play book ≡ ended t → reached (reach book 0).commands fresh ≡ t
play_reaches book t e = taken_reaches (play_takes book t e)
