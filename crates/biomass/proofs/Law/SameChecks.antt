-- Two reports with the same checks: they are the same where what follows is, and that only past the check.
use Rattle.std.specs.Prelude.{ℕ, Bool, true, false, cond, ◌≡◌, refl}
use Rattle.std.proofs.Common.{◌∙◌, ap}
use Rattle.biomass.specs.Report.{Report, refused, gives, unless, ◌then◌, when}

pub when_same : {A : Type 0} (test : Bool) (n : ℕ) (r q : Report A) → (test ≡ false → r ≡ q) → when test n r ≡ when test n q
when_same true n r q h = refl
when_same false n r q h = h refl

pub unless_same : {A : Type 0} (test : Bool) (n : ℕ) (r q : Report A) → (test ≡ true → r ≡ q) → unless test n r ≡ unless test n q
unless_same true n r q h = h refl
unless_same false n r q h = refl

pub then_same : {A B : Type 0} (first : Report A) (f g : A → Report B) → ((a : A) → f a ≡ g a) → first then f ≡ first then g
then_same (refused n) f g h = refl
then_same (gives a) f g h = h a

-- and where more is made of the figure of the one
module _ {A B : Type 0} (f : A → Report B) where
  pub when_then : (test : Bool) (n : ℕ) (r : Report A) (q : Report B) → (test ≡ false → r then f ≡ q) → when test n r then f ≡ when test n q
  when_then true n r q h = refl
  when_then false n r q h = h refl

  pub unless_then : (test : Bool) (n : ℕ) (r : Report A) (q : Report B) → (test ≡ true → r then f ≡ q) → unless test n r then f ≡ unless test n q
  unless_then true n r q h = h refl
  unless_then false n r q h = refl

  pub cond_then : (test : Bool) (r s : Report A) (q p : Report B) →
      (test ≡ true → r then f ≡ q) → (test ≡ false → s then f ≡ p) → cond test r s then f ≡ cond test q p
  cond_then true r s q p h k = h refl
  cond_then false r s q p h k = k refl

  pub then_then : {C : Type 0} (first : Report C) (g : C → Report A) (q : C → Report B) →
      ((c : C) → first ≡ gives c → g c then f ≡ q c) → first then g then f ≡ first then q
  then_then (refused n) g q h = refl
  then_then (gives c) g q h = h c refl

  -- a check that is known to be passed
  pub passed_then : {q : Report B} (test : Bool) (n : ℕ) (r : Report A) → test ≡ true → r then f ≡ q → unless test n r then f ≡ q
  passed_then test n r e h = ap (λ (b : Bool). unless b n r then f) e ∙ h

  -- a first report that is known to give a figure
  pub answered_then : {C : Type 0} {c : C} {q : Report B} (first : Report C) (g : C → Report A) →
      first ≡ gives c → g c then f ≡ q → first then g then f ≡ q
  answered_then first g e h = ap (λ (r : Report _). r then g then f) e ∙ h
