-- Laws of the checks that a command goes through, over the tests that they are made of: of what stands somewhere, and those of two or more parts.
use Rattle.std.specs.Prelude.{ℕ, ◌≤◌, ◌≡◌, refl, Bool, true, false, cond, Option, None, Some, is_some, length, eqb, ◌&&◌}
use Rattle.std.proofs.Common.{zero-le, lt_of_not-le, arith, ◌∙◌, sym, ap, ap₂, ne_eqb}
use Rattle.std.proofs.Math.Decide.{ℕ_discrete, dec_le}
use Rattle.std.proofs.lemmas.Bool.{false≢true}
use Rattle.std.proofs.lemmas.List.{get_or_past}
use Rattle.biomass.specs.Bounds.{Inside}
use Rattle.biomass.specs.Whole.{inside}
use Rattle.biomass.specs.Report.{Report, gives, ◌then◌, given}
use Rattle.biomass.proofs.Law.Report.{inside_true, true_inside, both_true}
use Rattle.survey.specs.Survey.{species_at, declared_with, declared, declare, open_line}
use Rattle.rules.specs.Checks.{species_in_range, is_line, opening}
use Rattle.rules.proofs.Law.Passed.{Gives, passed}
use Rattle.rules.proofs.Law.Opening.{opening_passes}
use Rattle.survey.specs.Valid.{ValidSpecies}
use Rattle.codec.specs.declared.command.Species.{Species}
use Rattle.line.specs.declared.row.Row.{Row}
use Rattle.survey.specs.declared.survey.Survey.{Survey}

-- ---- what stands somewhere, or not

-- two reports that ask alike for what stands somewhere are the same where what follows is, and that only where something stands there
pub given_same : {A B : Type 0} (o : Option A) (n : ℕ) (f g : A → Report B) → ((a : A) → o ≡ Some a → f a ≡ g a) → given o n then f ≡ given o n then g
given_same None n f g h = refl
given_same (Some a) n f g h = h a refl

pub given_then : {A B C : Type 0} (f : A → Report B) (o : Option C) (n : ℕ) (g : C → Report A) (q : C → Report B)
    → ((c : C) → o ≡ Some c → g c then f ≡ q c) → given o n then g then f ≡ given o n then q
given_then f None n g q h = refl
given_then f (Some c) n g q h = h c refl

pub none_is_some : {A X : Type 0} {a : A} → None ≡ Some a → X
none_is_some e = absurd (false≢true (ap is_some e))

pub some_is : {A : Type 0} {a b : A} → Some a ≡ Some b → a ≡ b
some_is e = cc

pub something_there : {A : Type 0} (o : Option A) → is_some o ≡ true → (a : A) × (o ≡ Some a)
something_there None e = absurd (false≢true e)
something_there (Some a) e = (a, refl)

pub nothing_there : {A : Type 0} (o : Option A) → is_some o ≡ false → o ≡ None
nothing_there None e = refl
nothing_there (Some a) e = absurd (false≢true (sym e))

-- ---- tests of two parts

-- up to 15, a species is declared with what stands at its id
pub up_to_15 : (id : ℕ) (s : Survey) → id ≤ 15 → declared_with id s ≡ species_at s id
up_to_15 id s up_to = ap (λ (test : Bool). cond test (species_at s id) None) (true_inside 0 id 15 zero-le up_to)

-- "8 species undeclared, an id above 15 included": such an id has no place in the table, so that the code need not ask
pub in_table : (s : Survey) (id : ℕ) (x : Species) → length s.species ≡ 16 → species_at s id ≡ Some x → id ≤ 15
in_table s id x long is =
    elim (dec_le (length s.species) id) [
      | yes past ↦ none_is_some (sym (get_or_past s.species id None past) ∙ is)
      | no inside ↦ omega (arith, lt_of_not-le inside)
    ]

pub past_table : (s : Survey) (id : ℕ) → length s.species ≡ 16 → species_at s id ≡ declared_with id s
past_table s id long = by_place (species_at s id) (inside 0 id 15) (λ x is. true_inside 0 id 15 zero-le (in_table s id x long is))
  where
    by_place : (o : Option Species) (test : Bool) → ((x : Species) → o ≡ Some x → test ≡ true) → o ≡ cond test o None
    by_place None true up_to = refl
    by_place None false up_to = refl
    by_place (Some x) test up_to = sym (ap (λ (b : Bool). cond b (Some x) None) (up_to x refl))

-- a species is declared where its id is up to 15 and something stands there
pub record Declared (id : ℕ) (s : Survey) : Type 0 where
  pub in_table : id ≤ 15
  pub species : Species
  pub is : species_at s id ≡ Some species

pub declared_is : (id : ℕ) (s : Survey) (x : Species) → declared_with id s ≡ Some x → (id ≤ 15) × (species_at s id ≡ Some x)
declared_is id s x = by_test (inside 0 id 15) (inside_true 0 id 15)
  where
    by_test : (test : Bool) → (test ≡ true → Inside 0 id 15) → cond test (species_at s id) None ≡ Some x → (id ≤ 15) × (species_at s id ≡ Some x)
    by_test true up_to e = ((up_to refl).most, e)
    by_test false up_to e = none_is_some e

pub declared_true : (id : ℕ) (s : Survey) → declared id s ≡ true → Declared id s
declared_true id s e =
    let some = something_there (declared_with id s) e in
    let is = declared_is id s some.0 some.1 in
    record { in_table = is.0; species = some.0; is = is.1 }

pub true_declared : (id : ℕ) (s : Survey) → Declared id s → declared id s ≡ true
true_declared id s d = ap is_some (up_to_15 id s d.in_table ∙ d.is)

-- whether it is declared hangs on what stands at its id
pub declared_as_lem : (id : ℕ) (s t : Survey) → species_at t id ≡ species_at s id → declared id t ≡ declared id s
declared_as_lem id s t e = ap (λ (x : Option Species). is_some (cond (inside 0 id 15) x None)) e

pub species_in_range_lem : (id : ℕ) (s : Species) → species_in_range id s ≡ true → Inside 0 id 15 × ValidSpecies s
species_in_range_lem id s e =
    let i = both_true (inside 0 id 15) _ e in
    let c = both_true (inside 0 s.crown 7) _ i.1 in
    let r = both_true (inside 0 s.root 5) _ c.1 in (
      inside_true 0 id 15 i.0,
      record {
        crown = inside_true 0 s.crown 7 c.0;
        root = inside_true 0 s.root 5 r.0;
        gravity = inside_true 1 s.gravity 100 r.1;
      },
    )

-- no command that names an id above 15 is taken
id_in_range : (id : ℕ) (x : Species) → species_in_range id x ≡ true → id ≤ 15
id_in_range id x e = (species_in_range_lem id x e).0.most

pub declared_in_table : (id : ℕ) (x : Species) (s : Survey) → Gives (λ _. id ≤ 15) (declare id x s)
unfolding declare
declared_in_table id x s = search (passed, id_in_range) depth 12

opening_declared : (id p q : ℕ) (s : Survey) (is_open before : Bool) (closed : ℕ) (x : Species) → opening p q is_open (declared_with id s) before closed ≡ gives x
    → id ≤ 15
opening_declared id p q s is_open before closed x e = (declared_is id s x (opening_passes p q is_open (declared_with id s) before closed x e).is_declared).0

pub opened_in_table : (stratum id p q : ℕ) (s : Survey) → Gives (λ _. id ≤ 15) (open_line stratum id p q s)
unfolding open_line
opened_in_table stratum id p q s = search (passed, opening_declared) depth 12

eqb_symmetric : (a b : ℕ) → eqb a b ≡ eqb b a
eqb_symmetric a b =
    elim (ℕ_discrete a b) [ yes e ↦ ap₂ eqb e (sym e) | no other ↦ ne_eqb a b other ∙ sym (ne_eqb b a (λ e. other (sym e))) ]

-- a line is that of one stratum and one species, whichever of two is asked for the other
pub is_line_symmetric : (r l : Row) → is_line r.stratum r.species l ≡ is_line l.stratum l.species r
is_line_symmetric r l = ap₂ (λ (s t : Bool). s && t) (eqb_symmetric l.stratum r.stratum) (eqb_symmetric l.species r.species)
