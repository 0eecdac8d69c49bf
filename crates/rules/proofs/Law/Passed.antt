-- What a report gives: its figure is such where it is past the last check, by all that the checks before it say.
use Rattle.std.specs.Prelude.{ℕ, ◌≡◌, refl, Bool, true, false, cond, Option, None, Some}
use Rattle.std.proofs.Common.{subst}
use Rattle.biomass.specs.Report.{Report, refused, gives, unless, ◌then◌, when, given}
use Rattle.biomass.proofs.Law.Gives.{never, figure_is}

abbrev pub Gives : {A : Type 0} → (A → Type 0) → Report A → Type 0
Gives such r = (a : _) → r ≡ gives a → such a

module _ {A : Type 0} (such : A → Type 0) where
  pub gives_such : (a : A) → such a → Gives such (gives a)
  gives_such a h b e = subst such (figure_is e) h

  pub when_such : (test : Bool) (n : ℕ) (rest : Report A) → (test ≡ false → Gives such rest) → Gives such (when test n rest)
  when_such true n rest h a e = never e
  when_such false n rest h a e = h refl a e

  pub unless_such : (test : Bool) (n : ℕ) (rest : Report A) → (test ≡ true → Gives such rest) → Gives such (unless test n rest)
  unless_such true n rest h a e = h refl a e
  unless_such false n rest h a e = never e

  pub cond_such : (test : Bool) (r q : Report A) → (test ≡ true → Gives such r) → (test ≡ false → Gives such q) → Gives such (cond test r q)
  cond_such true r q h k a e = h refl a e
  cond_such false r q h k a e = k refl a e

  pub then_such : {B : Type 0} (first : Report B) (f : B → Report A) → Gives (λ b. Gives such (f b)) first → Gives such (first then f)
  then_such (refused n) f h a e = never e
  then_such (gives b) f h a e = h b refl a e

  -- what stands somewhere, where something does
  pub given_such : {B : Type 0} (o : Option B) (n : ℕ) (f : B → Report A) → ((b : B) → o ≡ Some b → Gives such (f b)) → Gives such (given o n then f)
  given_such None n f h a e = never e
  given_such (Some b) n f h a e = h b refl a e

pub ruleset passed = (gives_such, when_such, unless_such, cond_such, given_such, then_such)
