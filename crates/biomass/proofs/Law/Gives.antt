-- A report that gives a figure, taken apart: every check on the way was passed, and every report on the way gave a figure.
use Rattle.std.specs.Prelude.{ℕ, Bool, true, false, ◌≡◌, refl}
use Rattle.std.proofs.Common.{arith}
use Rattle.biomass.specs.Bounds.{Inside}
use Rattle.biomass.specs.Whole.{inside}
use Rattle.biomass.specs.Report.{Report, refused, gives, unless, ◌then◌}
use Rattle.biomass.proofs.Law.Report.{inside_true}

pub never : {A X : Type 0} {n : ℕ} {a : A} → ◌≡◌ {A = Report A} (refused n) (gives a) → X
never e = let clash : ◌≡◌ {A = ℕ} 0 1 = cc in absurd (omega arith)

-- a report gives one figure
pub figure_is : {A : Type 0} {a b : A} → ◌≡◌ {A = Report A} (gives a) (gives b) → a ≡ b
figure_is e = cc

-- and is refused with one number
pub number_is : {A : Type 0} {n m : ℕ} → ◌≡◌ {A = Report A} (refused n) (refused m) → n ≡ m
number_is e = cc

-- a check before the rest of a report that gives a
pub test_passed : {A : Type 0} (test : Bool) (n : ℕ) (rest : Report A) {a : A} → unless test n rest ≡ gives a → (test ≡ true) × (rest ≡ gives a)
test_passed true n rest e = (refl, e)
test_passed false n rest e = never e

-- the same of a range check
pub record Passed {A : Type 0} (lo x hi : ℕ) (rest : Report A) (a : A) : Type 0 where
  pub in_range : Inside lo x hi
  pub next : rest ≡ gives a

pub passed : {A : Type 0} (lo x hi n : ℕ) (rest : Report A) {a : A} → unless (inside lo x hi) n rest ≡ gives a → Passed lo x hi rest a
passed lo x hi n rest e =
    let b = test_passed (inside lo x hi) n rest e in
    record { in_range = inside_true lo x hi b.0; next = b.1 }

-- a report before one that is made of its figure and gives b
pub record Made {A B : Type 0} (first : Report A) (next_of : A → Report B) (b : B) : Type 0 where
  pub figure : A
  pub gave : first ≡ gives figure
  pub next : next_of figure ≡ gives b

pub made : {A B : Type 0} (first : Report A) (next_of : A → Report B) {b : B} → first then next_of ≡ gives b → Made first next_of b
made (refused n) next_of e = never e
made (gives a) next_of e = record { figure = a; gave = refl; next = e }
