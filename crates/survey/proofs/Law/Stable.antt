-- A species, a factor or a row once given never changes, in any survey, valid or not: a command that would give one again is refused, and a row
-- is put after those that stand. Nothing else that a command changes (Law.Effect) is one of these.
use Rattle.std.specs.Prelude.{ℕ, ◌≤◌, ◌<◌, ◌≡◌, refl, List, None, Some}
use Rattle.std.proofs.Common.{arith, ◌∙◌, sym, ap, get_or-set_other}
use Rattle.biomass.specs.Report.{gives}
use Rattle.line.specs.Line.{factor_at}
use Rattle.survey.specs.Survey.{no_row, species_at}
use Rattle.survey.specs.Apply.{apply}
use Rattle.survey.specs.Valid.{row_at}
use Rattle.survey.proofs.Law.Checks.{none_is_some}
use Rattle.survey.proofs.Law.Effect.{Effect, a_species, a_factor, the_line, a_row, effect}
use Rattle.survey.specs.Closings.{Closing}
use Rattle.codec.specs.declared.command.Command.{Command}
use Rattle.codec.specs.declared.command.Species.{Species}
use Rattle.survey.specs.declared.survey.Survey.{Survey}

-- a closed line's row stands where it stood, and no line is reopened
pub record Kept (s t : Survey) : Type 0 where
  pub closed : s.closed ≤ t.closed
  pub rows : (i : ℕ) → i < s.closed → row_at t i ≡ row_at s i

-- ---- by what is changed

module _ {c : Command} {s : Survey} where
  species_kept : {t : Survey} {closes : List Closing} → Effect c s t closes → (id : ℕ) (x : Species) → species_at s id ≡ Some x → species_at t id ≡ Some x
  species_kept (a_species {id = new} {x = y} g treeless) id x h =
      get_or-set_other s.species new id (Some y) None (λ same. none_is_some (sym g.new ∙ ap (species_at s) (sym same) ∙ h)) ∙ h
  species_kept (a_factor g treeless) id x h = h
  species_kept (the_line g) id x h = h
  species_kept (a_row r e treeless) id x h = h

  factors_kept : {t : Survey} {closes : List Closing} → Effect c s t closes
      → (cm x : ℕ) → factor_at s.factors cm ≡ Some x → factor_at t.factors cm ≡ Some x
  factors_kept (a_species g treeless) cm x h = h
  factors_kept (a_factor {cm = new} {x = y} g treeless) cm x h =
      get_or-set_other s.factors new cm (Some y) None (λ same. none_is_some (sym g.new ∙ ap (factor_at s.factors) (sym same) ∙ h)) ∙ h
  factors_kept (the_line g) cm x h = h
  factors_kept (a_row r e treeless) cm x h = h

  rows_kept : {t : Survey} {closes : List Closing} → Effect c s t closes → Kept s t
  rows_kept (a_species g treeless) = record { closed = omega arith; rows = λ i h. refl }
  rows_kept (a_factor g treeless) = record { closed = omega arith; rows = λ i h. refl }
  rows_kept (the_line g) = record { closed = omega arith; rows = λ i h. refl }
  rows_kept (a_row r e treeless) =
      record { closed = omega arith; rows = λ i h. get_or-set_other s.rows s.closed i r no_row (λ same. omega arith) }

-- ---- of every command

pub species_stay : (c : Command) (s t : Survey) → apply c s ≡ gives t → (id : ℕ) (x : Species) → species_at s id ≡ Some x → species_at t id ≡ Some x
species_stay c s t e = species_kept (effect c s t e)

pub factors_stay : (c : Command) (s t : Survey) → apply c s ≡ gives t → (cm x : ℕ) → factor_at s.factors cm ≡ Some x → factor_at t.factors cm ≡ Some x
factors_stay c s t e = factors_kept (effect c s t e)

pub rows_stay : (c : Command) (s t : Survey) → apply c s ≡ gives t → Kept s t
rows_stay c s t e = rows_kept (effect c s t e)
