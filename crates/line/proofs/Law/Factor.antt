-- Where the factor of a line is read (document 02, Q-5): at a whole cm from the least class of its measured trees to the greatest. So where the factors at all of
-- these are given, there is the one for which 14 asks.
use Rattle.std.specs.Prelude.{ℕ, ◌*◌, ◌≤◌, List, Option, IsSome}
use Rattle.std.proofs.Common.{mul-le-mul, mul-le-mul_left, arith, lit≤}
use Rattle.biomass.specs.Bounds.{Inside}
use Rattle.biomass.specs.Limits.{most_measured}
use Rattle.biomass.specs.Mean.{mean_of}
use Rattle.biomass.specs.Whole.{square}
use Rattle.biomass.proofs.Law.Mean.{mean_between_classes}
use Rattle.line.specs.Line.{tallied, whole_cm, factor_at, factor_for}
use Rattle.line.specs.declared.line.Tally.{Tally}

-- what n and S are of trees whose classes are all from a to b
pub record Classes (a b : ℕ) (t : Tally) : Type 0 where
  pub from_least : square a * t.n ≤ t.squares
  pub to_greatest : t.squares ≤ square b * t.n

-- they are so of none, and stay so with more such trees
pub no_classes : (a b : ℕ) → Classes a b (record { n = 0; squares = 0 })
no_classes a b = record { from_least = omega arith; to_greatest = omega arith }

pub classes_tallied : {a b : ℕ} (class count : ℕ) {t : Tally} → a ≤ class → class ≤ b → Classes a b t → Classes a b (tallied class count t)
classes_tallied class count from to c =
    record {
      from_least = omega (arith, c.from_least, mul-le-mul_left count (mul-le-mul from from));
      to_greatest = omega (arith, c.to_greatest, mul-le-mul_left count (mul-le-mul to to));
    }

module _ (a b : ℕ) (t : Tally) (some : Inside 1 t.n most_measured) (squares : Inside (49 * t.n) t.squares (10000 * t.n)) (c : Classes a b t) where
  -- the factor's cm
  pub factor_in_classes : Inside a (whole_cm (mean_of t.n t.squares)) b
  factor_in_classes =
      let d = mean_between_classes t.n t.squares some squares a b c.from_least c.to_greatest in
      record { least = omega (arith, d.least); most = omega (arith, d.most) }

  -- and the factor itself
  pub factor_there : (factors : List (Option ℕ)) → ((cm : ℕ) → Inside a cm b → IsSome (factor_at factors cm)) → IsSome (factor_for factors (mean_of t.n t.squares))
  factor_there factors given_there = given_there _ factor_in_classes

-- such are 24 trees of 60 cm and one of 59
pub two_classes : Classes 59 60 (tallied 59 1 (tallied 60 24 (record { n = 0; squares = 0 })))
two_classes = classes_tallied 59 1 (lit≤ tt) (lit≤ tt) (classes_tallied 60 24 (lit≤ tt) (lit≤ tt) (no_classes 59 60))
