-- What a routine reports: the figure, or the number of a refusal, and how each answer of the code is read so.
-- "Where an answer is an enum, a definition gives this paper's number and values for each case of the enum."
use Rattle.std.specs.Prelude.{ℕ, Bool, true, false, Option, None, Some, Result, Ok, Err}
use Rattle.biomass.specs.declared.report.Refusal.{Refusal}
use Rattle.biomass.specs.declared.report.Refusal.TheVariants.{Operand, Tariff}

pub data Report (A : Type 0) : Type 0 where
  refused : ℕ → Report A
  gives : A → Report A

-- One check of document 01's lists: unless the test holds, the refusal n; else what follows
abbrev pub unless : {A : Type 0} → Bool → ℕ → Report A → Report A
unless true n r = r
unless false n r = refused n

-- and the other way: where the test holds, the refusal n
abbrev pub when : {A : Type 0} → Bool → ℕ → Report A → Report A
when true n r = refused n
when false n r = r

-- what is made of a figure, or the refusal as it stands
infixl 20 ◌then◌
abbrev pub ◌then◌ : {A B : Type 0} → Report A → (A → Report B) → Report B
refused n then f = refused n
gives a then f = f a

-- "6 for any operand outside its range", "13, tariff only"
abbrev pub refusal_number : Refusal → ℕ
refusal_number Operand = 6
refusal_number Tariff = 13

-- what a routine answers, read as a report: a figure gives it, and what it is declined with has a number
abbrev pub report : {A E : Type 0} → (E → ℕ) → Result A E → Report A
report number (Ok a) = gives a
report number (Err why) = refused (number why)

-- what stands somewhere, or the refusal n where nothing does
abbrev pub given : {A : Type 0} → Option A → ℕ → Report A
given None n = refused n
given (Some a) n = gives a

-- What becomes of a thing that a routine is lent to change: what is left of it, and the number of the refusal, if there is one
pub record After (A : Type 0) : Type 0 where
  pub left : A
  pub refusal : Option ℕ

-- "The survey returned is the one given", where the change is refused; else the changed one is left
abbrev pub leaves : {A : Type 0} → A → Report A → After A
leaves a (refused n) = record { left = a; refusal = Some n }
leaves a (gives b) = record { left = b; refusal = None }

-- what the code answers, with what is then left
abbrev pub after : {A E : Type 0} → (E → ℕ) → Result Unit E → A → After A
after number (Ok done) a = record { left = a; refusal = None }
after number (Err why) a = record { left = a; refusal = Some (number why) }
