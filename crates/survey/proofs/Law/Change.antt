-- Applying a command is deciding it and storing the change, whatever the survey: the checks are the same, and where they are passed the change makes of the
-- survey what the command makes of it. What is seen of the tables is enough for that, and the change has its place in them.
use Rattle.std.specs.Prelude.{ℕ, ◌≤◌, ◌≡◌, refl, Bool, true, false, cond, List, Option, None, Some, is_some}
use Rattle.std.proofs.Common.{◌∙◌, sym, ap, subst, leb-false}
use Rattle.biomass.specs.Whole.{inside}
use Rattle.biomass.specs.Report.{Report, gives, ◌then◌, when}
use Rattle.biomass.proofs.Law.Report.{inside_true}
use Rattle.biomass.proofs.Law.SameChecks.{when_then, unless_then, then_then}
use Rattle.line.specs.Line.{new_line}
use Rattle.rules.specs.Checks.{species_in_range, declaring, opening}
use Rattle.rules.specs.Change.{named, declared_at, opens, change_of, decided, own_of}
use Rattle.rules.proofs.Law.Passed.{Gives, passed, when_such}
use Rattle.survey.specs.Survey.{declare, give_factor, open_line, give_small, end}
use Rattle.survey.specs.Apply.{on_line, apply_measured, apply_height, apply_close, apply}
use Rattle.survey.specs.Changed.{changed, HasPlace, seen_of, there_of, before_of, SameSeen, Sees}
use Rattle.survey.proofs.Law.Checks.{given_then, species_in_range_lem, none_is_some, some_is}
use Rattle.codec.specs.declared.command.Species.{Species}
use Rattle.codec.specs.declared.command.Command.{Command}
use Rattle.line.specs.declared.line.Line.{Line}
use Rattle.rules.specs.declared.change.Change.{Change}
use Rattle.rules.specs.declared.change.Named.{Named}
use Rattle.survey.specs.declared.survey.Survey.{Survey}

-- ---- deciding, then storing

-- what is made of the figure of a chain of checks is made behind its last check
ruleset thens = (when_then, unless_then, then_then, given_then)

module _ (s : Survey) where
  abbrev make : Change → Report Survey
  make k = gives (changed k s)

  -- what is made of a survey that has not ended, by what stands in its tables
  abbrev after : Command → Report Survey
  after c = change_of c (seen_of (there_of (named c) s) (before_of (named c) s) s) s.line s.factors then make

  -- and so of every command
  as_after : (c : Command) → apply c s ≡ when s.ended 5 (after c)
  unfolding declare give_factor open_line apply_measured apply_height apply_close end give_small
  as_after (Command.Species id species) = ap (when s.ended 5) (sym (search thens depth 12))
  as_after (Command.Factor cm factor) = ap (when s.ended 5) (sym (search thens depth 12))
  as_after (Command.Open stratum id p q) = ap (when s.ended 5) (sym (search thens depth 12))
  as_after (Command.Measured class count) = ap (when s.ended 5) (sym (search thens depth 12))
  as_after (Command.Height cm tenths) = ap (when s.ended 5) (sym (search thens depth 12))
  as_after Command.Close = ap (when s.ended 5) (sym (search thens depth 12))
  as_after Command.End = ap (when s.ended 5) (sym (search thens depth 12))
  as_after (Command.Small carbon count) = ap (when s.ended 5) (sym (search thens depth 12))

-- ---- what is seen is enough

-- what a species is declared with is seen at its place, and none above 15 has one
declared_seen : (id : ℕ) (x y : Option Species) → (id ≤ 15 → x ≡ y) → declared_at id x ≡ declared_at id y
declared_seen id x y same = by_place (inside 0 id 15) refl
  where
    by_place : (test : Bool) → inside 0 id 15 ≡ test → cond test x None ≡ cond test y None
    by_place true e = same (inside_true 0 id 15 e).most
    by_place false e = refl

-- so a command changes the same, whatever is seen at an id that has no place, or of a species or a line that it does not name
pub seen_enough : (c : Command) (s : Survey) (x y : Option Species) (a b : Bool) (line : Option Line) (factors : List (Option ℕ)) → SameSeen (named c) x y a b
    → change_of c (seen_of x a s) line factors ≡ change_of c (seen_of y b s) line factors
seen_enough (Command.Species id species) s x y a b line factors same =
    ap (λ (there : Option Species). declaring id species (is_some there) (gives (Change.Species id species))) (declared_seen id x y same)
seen_enough (Command.Factor cm factor) s x y a b line factors same = refl
seen_enough (Command.Open stratum id p q) s x y a b line factors same =
    ap (λ (before : Bool). opens stratum id p q (seen_of x before s) line) same.1
    ∙ ap (λ (there : Option Species). opening p q (is_some line) there b s.closed then λ z. gives (Change.Line (new_line stratum id z p q)))
    (declared_seen id x y same.0)
seen_enough (Command.Measured class count) s x y a b line factors same = refl
seen_enough (Command.Height cm tenths) s x y a b line factors same = refl
seen_enough Command.Close s x y a b line factors same = refl
seen_enough Command.End s x y a b line factors same = refl
seen_enough (Command.Small carbon count) s x y a b line factors same = refl

-- and every survey is seen by its own tables
pub sees_itself : (name : Named) (s : Survey) → Sees name (there_of name s) (before_of name s) s
sees_itself Named.Nothing s = tt
sees_itself (Named.Species id) s = λ has_place. refl
sees_itself (Named.Line stratum id) s = (λ has_place. refl, refl)

-- ---- a change has its place

-- no species in range, and no factor, is past the end of its table
in_species : (id : ℕ) (x : Species) → species_in_range id x ≡ true → id ≤ 15
in_species id x e = (species_in_range_lem id x e).0.most

in_factors : (cm : ℕ) → inside 7 cm 100 ≡ true → cm ≤ 100
in_factors cm e = (inside_true 7 cm 100 e).most

ruleset places = (passed, in_species, in_factors, leb-false, tt)

has_place : (c : Command) (s : Survey) (there : Option Species) (before : Bool) (line : Option Line) (factors : List (Option ℕ))
    → Gives (λ k. HasPlace k s) (change_of c (seen_of there before s) line factors)
has_place (Command.Species id species) s there before line factors = search places depth 12
has_place (Command.Factor cm factor) s there before line factors = search places depth 12
has_place (Command.Open stratum id p q) s there before line factors = search places depth 12
has_place (Command.Measured class count) s there before line factors = search places depth 12
has_place (Command.Height cm tenths) s there before line factors = search places depth 12
has_place Command.Close s there before line factors = search places depth 12
has_place Command.End s there before line factors = search places depth 12
has_place (Command.Small carbon count) s there before line factors = search places depth 12

-- ---- what the code decides

-- what is decided is what applying the command makes of the survey: the change, with its place there, or the refusal
pub record ChangeMade (c : Command) (s : Survey) (r : Report Change) : Type 0 where
  pub place : Gives (λ k. HasPlace k s) r
  pub is : apply c s ≡ (r then λ k. gives (changed k s))

made : (c : Command) (s : Survey) (there : Option Species) (before : Bool) → Sees (named c) there before s
    → ChangeMade c s (decided c (seen_of there before s) s.line s.factors)
made c s there before sees =
    let such : Change → Type 0 = λ k. HasPlace k s in
    record {
      place = when_such such s.ended 5 _ (λ not_ended. has_place c s there before s.line s.factors);
      is =
          as_after s c
          ∙ ap (λ (r : Report Change). when s.ended 5 (r then make s)) (seen_enough c s _ there _ before s.line s.factors sees)
          ∙ sym (when_then (make s) s.ended 5 _ _ (λ not_ended. refl));
    }

-- so what the code decides, on what it sees of any survey, is what the command makes of the survey
pub decides : (c : Command) (s : Survey) (name : Named) (there : Option Species) (before : Bool) (r : Report Change) → name ≡ named c → Sees name there before s
    → r ≡ decided c (seen_of there before s) s.line s.factors → ChangeMade c s r
decides c s name there before r is_named sees e =
    subst (ChangeMade c s) (sym e) (made c s there before (subst (λ (n : Named). Sees n there before s) is_named sees))

-- where it is known that the book has not ended, that need not be looked up
pub not_ended_seen : (c : Command) (s : Survey) (there : Option Species) (before : Bool) {r : Report Change} → s.ended ≡ false
    → r ≡ decided c (record { there = there; before = before; closed = s.closed; ended = false }) s.line s.factors
    → r ≡ decided c (seen_of there before s) s.line s.factors
not_ended_seen c s there before not_ended e =
    e
    ∙ ap (λ (b : Bool). decided c (record { there = there; before = before; closed = s.closed; ended = b }) s.line s.factors)
    (sym not_ended)

-- ---- the line's own commands

-- what is noted on an open line; it looks at nothing else of the survey but whether the book has ended and a line is open
pub own_applied : (c : Command) (s : Survey) {note : Line → Report Line} → own_of c ≡ Some note → apply c s ≡ on_line note s
unfolding apply_measured apply_height
own_applied (Command.Species id species) s e = none_is_some e
own_applied (Command.Factor cm factor) s e = none_is_some e
own_applied (Command.Open stratum species p q) s e = none_is_some e
own_applied (Command.Measured class count) s e = ap (λ (note : Line → Report Line). on_line note s) (some_is e)
own_applied (Command.Height cm tenths) s e = ap (λ (note : Line → Report Line). on_line note s) (some_is e)
own_applied Command.Close s e = none_is_some e
own_applied Command.End s e = none_is_some e
own_applied (Command.Small carbon count) s e = none_is_some e
