-- A command is refused with the numbers that the papers name for it: of a valid survey with no other, and of any survey with no other but 6 and
-- 11, since all commands but closing have just the numbers that are named. Each check tells its own number, and each figure 6 or 13. None of them is below 5, so that a refusal is never taken for acceptance,
-- nor for one of reading.
use Rattle.std.specs.Prelude.{ℕ, ◌≤◌, ◌≡◌, refl, Bool, true, false, cond, List, [], ◌∷◌, Option, None, Some, leb, eqb}
use Rattle.std.proofs.Common.{arith, ◌∙◌, sym, ap, subst, leb-true, eqb-true}
use Rattle.std.proofs.lemmas.Bool.{false≢true}
use Rattle.biomass.specs.Report.{Report, refused, gives, given, ◌then◌, After, leaves}
use Rattle.biomass.proofs.Law.Gives.{number_is}
use Rattle.biomass.proofs.Law.Report.{both_true}
use Rattle.biomass.proofs.Law.Declines.{Declines, six_declines, six_or_thirteen_declines, single_tariff_declines, line_tariff_declines, mean_declines, trees_declines, row_declines, small_declines, declined}
use Rattle.survey.specs.Survey.{declare, give_factor, open_line, measure, give_height, give_small, close, end}
use Rattle.survey.specs.AsWritten.{as_written, numbers_of, is_in}
use Rattle.survey.specs.Apply.{apply_measured, apply_height, apply_close, apply}
use Rattle.line.specs.Line.{add_small}
use Rattle.line.specs.AnyLine.{add_trees, add_height, scaled, row_gaining, worked, line_row}
use Rattle.survey.specs.Valid.{Valid}
use Rattle.survey.proofs.Law.AsWritten.{as_written_lem}
use Rattle.survey.proofs.Law.Checks.{none_is_some, some_is}
use Rattle.codec.specs.declared.command.Command.{Command}
use Rattle.line.specs.declared.line.Line.{Line}
use Rattle.survey.specs.declared.survey.Survey.{Survey}
use Rattle.biomass.specs.Units.{BiomassRange}

abbrev In : List ℕ → ℕ → Type 0
In l n = is_in n l ≡ true

-- one of the numbers that are named for a command
abbrev Named : Command → ℕ → Type 0
Named c = In (numbers_of c)

-- what stands somewhere, or else the number that is told where nothing does
pub given_declines : {A B : Type 0} (such : ℕ → Type 0) (o : Option A) (k : ℕ) (next_of : A → Report B)
    → such k → ((a : A) → o ≡ Some a → Declines such (next_of a)) → Declines such (given o k then next_of)
given_declines such None k next_of this others n e = subst such (number_is e) this
given_declines such (Some a) k next_of this others n e = others a refl n e

-- the checks of a command, one by one, with the figure that a height tree is worked from
pub ruleset refusals = (given_declines, declined, six_or_thirteen_declines, single_tariff_declines)

-- and those of a line's row, with the figures that it is worked from, whatever is to hold of the numbers
module _ (such : ℕ → Type 0) (six : such 6) where
  scaled_declines : such 15 → (n p q : ℕ) → Declines such (scaled n p q)
  scaled_declines fifteen n p q = search (declined, six_declines, trees_declines) depth 12

  gaining_declines : (l : Line) (T d N : ℕ) (m : BiomassRange) (number : ℕ) → Declines such (row_gaining l T d N m number)
  unfolding row_gaining
  gaining_declines l T d N m number = search (declined, six_declines, small_declines) depth 12

  worked_declines : (l : Line) (T d f N number : ℕ) → Declines such (worked l T d f N number)
  unfolding worked
  worked_declines l T d f N number = search (declined, six_declines, row_declines, gaining_declines) depth 12

pub line_row_declines : (such : ℕ → Type 0) (factors : List (Option ℕ)) (l : Line) → such 6 → such 12 → such 14 → such 15 → Declines such (line_row factors l)
unfolding line_row
line_row_declines such factors l six twelve fourteen fifteen =
    search (given_declines, declined, six_declines, line_tariff_declines, mean_declines, scaled_declines, gaining_declines, worked_declines) depth 20

-- ---- a valid survey

text_named : (c : Command) (s : Survey) → Declines (Named c) (as_written c s)
unfolding declare give_factor open_line measure give_height close end give_small add_small
text_named (Command.Species id species) s = search refusals depth 14
text_named (Command.Factor cm factor) s = search refusals depth 14
text_named (Command.Open stratum species p q) s = search refusals depth 14
text_named (Command.Measured class count) s = search refusals depth 14
text_named (Command.Height cm tenths) s = search refusals depth 14
text_named Command.Close s = search refusals depth 14
text_named Command.End s = search refusals depth 14
text_named (Command.Small carbon count) s = search refusals depth 14

-- the refusals that the papers do not name are unreachable
pub only_named : (c : Command) (s : Survey) (n : ℕ) → Valid s → apply c s ≡ refused n → is_in n (numbers_of c) ≡ true
only_named c s n v e = text_named c s n (sym (as_written_lem c s v) ∙ e)

-- ---- any survey

-- besides, only 6 and 11
abbrev NamedOrBesides : Command → ℕ → Type 0
NamedOrBesides c = In (6 ∷ 11 ∷ numbers_of c)

pub never_other : (c : Command) (s : Survey) → Declines (NamedOrBesides c) (apply c s)
unfolding declare give_factor open_line apply_measured add_trees apply_height add_height apply_close end give_small add_small
never_other (Command.Species id species) s = search refusals depth 20
never_other (Command.Factor cm factor) s = search refusals depth 20
never_other (Command.Open stratum species p q) s = search refusals depth 20
never_other (Command.Measured class count) s = search refusals depth 20
never_other (Command.Height cm tenths) s = search refusals depth 20
never_other Command.Close s = search (refusals, line_row_declines) depth 20
never_other Command.End s = search refusals depth 20
never_other (Command.Small carbon count) s = search refusals depth 20

-- what each of a list passes, a number in the list passes
abbrev each : (ℕ → Bool) → List ℕ → Bool
each test [] = true
each test (m ∷ l) = cond (test m) (each test l) false

cond_true : {X : Type 0} (test b : Bool) → cond test true b ≡ true → (test ≡ true → X) → (b ≡ true → X) → X
cond_true true b e this other = this refl
cond_true false b e this other = other e

in_each : (test : ℕ → Bool) (n : ℕ) (l : List ℕ) → each test l ≡ true → is_in n l ≡ true → test n ≡ true
in_each test n [] all is = absurd (false≢true is)
in_each test n (m ∷ l) all is =
    let both = both_true (test m) (each test l) all in
    cond_true (eqb n m) (is_in n l) is (λ same. ap test (eqb-true n m same) ∙ both.0) (in_each test n l both.1)

-- so a number in a list is in another where each of the list is
pub in_other : (n : ℕ) (l other : List ℕ) → each (λ m. is_in m other) l ≡ true → is_in n l ≡ true → is_in n other ≡ true
in_other n l other = in_each (λ m. is_in m other) n l

-- the numbers of applying, whatever the command
abbrev pub of_applying : List ℕ
of_applying = 5 ∷ 6 ∷ 7 ∷ 8 ∷ 9 ∷ 10 ∷ 11 ∷ 12 ∷ 13 ∷ 14 ∷ 15 ∷ 17 ∷ []

named_of_applying : (c : Command) → each (λ m. is_in m of_applying) (6 ∷ 11 ∷ numbers_of c) ≡ true
named_of_applying (Command.Species id species) = refl
named_of_applying (Command.Factor cm factor) = refl
named_of_applying (Command.Open stratum species p q) = refl
named_of_applying (Command.Measured class count) = refl
named_of_applying (Command.Height cm tenths) = refl
named_of_applying Command.Close = refl
named_of_applying Command.End = refl
named_of_applying (Command.Small carbon count) = refl

pub refusal_of_applying : (c : Command) (s : Survey) (n : ℕ) → apply c s ≡ refused n → is_in n of_applying ≡ true
refusal_of_applying c s n e = in_other n (6 ∷ 11 ∷ numbers_of c) of_applying (named_of_applying c) (never_other c s n e)

-- 1 to 4 are reading's and writing's own
pub refusal_from_five : (c : Command) (s : Survey) (n : ℕ) → apply c s ≡ refused n → 5 ≤ n
refusal_from_five c s n e = leb-true 5 n (in_each (leb 5) n of_applying refl (refusal_of_applying c s n e))

-- 0 stands for acceptance
pub refusal_not_zero : (c : Command) (s : Survey) (n : ℕ) → apply c s ≡ refused n → n ≡ 0 → ⊥
refusal_not_zero c s n e zero = omega (arith, refusal_from_five c s n e)

-- ---- what is left of a survey or a line, with the refusal if there is one, tells what was reported of the change

module _ {A : Type 0} (a b : A) where
  pub is_taken : (r : Report A) → record { left = b; refusal = None } ≡ leaves a r → r ≡ gives b
  is_taken (gives c) e = sym (ap (λ (x : After A). gives x.left) e)
  is_taken (refused n) e = none_is_some (ap (λ (x : After A). x.refusal) e)

  pub is_refused : {n : ℕ} (r : Report A) → record { left = b; refusal = Some n } ≡ leaves a r → r ≡ refused n
  is_refused (refused m) e = sym (ap refused (some_is (ap (λ (x : After A). x.refusal) e)))
  is_refused (gives c) e = none_is_some (sym (ap (λ (x : After A). x.refusal) e))

  -- where it is refused, nothing is changed
  pub is_kept : {n : ℕ} (r : Report A) → record { left = b; refusal = Some n } ≡ leaves a r → b ≡ a
  is_kept (refused m) e = ap (λ (x : After A). x.left) e
  is_kept (gives c) e = none_is_some (sym (ap (λ (x : After A). x.refusal) e))

-- "5 the book has ended, first of all."
pub ended_refuses : (c : Command) (s : Survey) → s.ended ≡ true → apply c s ≡ refused 5
unfolding declare give_factor open_line apply_measured apply_height apply_close end give_small
ended_refuses (Command.Species id species) s e = rw e
ended_refuses (Command.Factor cm factor) s e = rw e
ended_refuses (Command.Open stratum species p q) s e = rw e
ended_refuses (Command.Measured class count) s e = rw e
ended_refuses (Command.Height cm tenths) s e = rw e
ended_refuses Command.Close s e = rw e
ended_refuses Command.End s e = rw e
ended_refuses (Command.Small carbon count) s e = rw e
