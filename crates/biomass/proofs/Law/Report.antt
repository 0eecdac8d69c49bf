-- Laws of the checks that a report is made of: what a test that passed or failed says, and which report follows.
use Rattle.std.specs.Prelude.{ℕ, ◌≤◌, ◌≡◌, refl, Bool, true, false, not, cond, leb, Result, Ok, Err}
use Rattle.std.proofs.Common.{◌∙◌, sym, ap, leb-true, le-leb}
use Rattle.std.proofs.lemmas.Bool.{false≢true, not-true, not-false}
use Rattle.biomass.specs.Bounds.{Inside}
use Rattle.biomass.specs.Whole.{inside}
use Rattle.biomass.specs.Report.{Report, refused, gives, unless, when, ◌then◌, report}

-- a test of two parts
pub both_true : (s t : Bool) → cond s t false ≡ true → (s ≡ true) × (t ≡ true)
both_true true t e = (refl, e)
both_true false t e = absurd (false≢true e)

pub inside_true : (lo x hi : ℕ) → inside lo x hi ≡ true → Inside lo x hi
inside_true lo x hi e =
    let b = both_true (leb lo x) (leb x hi) e in
    record { least = leb-true lo x b.0; most = leb-true x hi b.1 }

pub true_inside : (lo x hi : ℕ) → lo ≤ x → x ≤ hi → inside lo x hi ≡ true
true_inside lo x hi l m = ap (λ (s : Bool). cond s (leb x hi) false) (le-leb lo x l) ∙ le-leb x hi m

-- a report made of another one: a refusal stands, and a figure goes on
pub stops : {A B : Type 0} {n : ℕ} (first : Report A) (f : A → Report B) → first ≡ refused n → refused n ≡ (first then f)
stops first f e = ap (λ (r : Report _). r then f) (sym e)

pub follows : {A B : Type 0} {x : Report B} {a : A} (first : Report A) (f : A → Report B) → first ≡ gives a → x ≡ f a → x ≡ (first then f)
follows first f e r = r ∙ ap (λ (q : Report _). q then f) (sym e)

-- ---- The tests of the code, one law for each way that a test goes. The checker takes these steps by itself: no proof cites them now (decision 79).

-- either way of a test
module _ {A : Type 0} {test : Bool} {x : Report A} (y z : Report A) where
  pub if_so : test ≡ true → x ≡ y → x ≡ cond test y z
  if_so e r = r ∙ ap (λ (b : Bool). cond b y z) (sym e)

  pub if_not : test ≡ false → x ≡ z → x ≡ cond test y z
  if_not e r = r ∙ ap (λ (b : Bool). cond b y z) (sym e)

-- a check that stops, and one that is passed
module _ {A : Type 0} {test : Bool} (next : Report A) where
  pub stop_unless : {n : ℕ} → test ≡ false → refused n ≡ unless test n next
  stop_unless {n} e = ap (λ (b : Bool). unless b n next) (sym e)

  pub past_unless : {x : Report A} (n : ℕ) → test ≡ true → x ≡ next → x ≡ unless test n next
  past_unless n e r = r ∙ ap (λ (b : Bool). unless b n next) (sym e)

  pub stop_when : {n : ℕ} → test ≡ true → refused n ≡ when test n next
  stop_when {n} e = ap (λ (b : Bool). when b n next) (sym e)

  pub past_when : {x : Report A} (n : ℕ) → test ≡ false → x ≡ next → x ≡ when test n next
  past_when n e r = r ∙ ap (λ (b : Bool). when b n next) (sym e)

-- `answer` is the routine's own test, which its promise makes the definition's: the code refuses where `!answer`, and goes on where not
pub held : {answer test : Bool} → answer ≡ test → not answer ≡ false → test ≡ true
held {answer} e t = sym e ∙ not-false answer t

pub refuses : {A : Type 0} {answer : Bool} {n : ℕ} (test : Bool) (next : Report A) → answer ≡ test → not answer ≡ true → refused n ≡ unless test n next
refuses {answer} test next e t = stop_unless next (sym e ∙ not-true answer t)

pub goes_on : {A : Type 0} {answer : Bool} {x : Report A} (test : Bool) (n : ℕ) (next : Report A) → answer ≡ test → not answer ≡ false → x ≡ next → x ≡ unless test n next
goes_on test n next e t r = past_unless next n (held e t) r

-- what it knows past a range test; and the same with the test that was passed first
pub in_range : {answer : Bool} {lo x hi : ℕ} → answer ≡ inside lo x hi → not answer ≡ false → Inside lo x hi
in_range {lo} {x} {hi} e t = inside_true lo x hi (held e t)

pub ranges : {answer : Bool} {lo x hi : ℕ} → not answer ≡ false → answer ≡ inside lo x hi → Inside lo x hi
ranges t e = in_range e t

-- what is made of the figure that a routine answers; and of what it declines, whose number is handed on
module _ {A B E : Type 0} (number : E → ℕ) {first : Report A} {answer : Result A E} (f : A → Report B) (promise : report number answer ≡ first) where
  pub follows_figure : {a : A} {x : Report B} → answer ≡ Ok a → x ≡ f a → x ≡ (first then f)
  follows_figure is = follows first f (sym promise ∙ ap (report number) is)

  pub stops_figure : {why : E} {n : ℕ} → answer ≡ Err why → n ≡ number why → refused n ≡ (first then f)
  stops_figure is same = ap refused same ∙ stops first f (sym promise ∙ ap (report number) is)

-- a figure that a routine worked out, as its promise says
pub given : {A : Type 0} {a b : A} → a ≡ b → gives a ≡ gives b
given = ap gives
