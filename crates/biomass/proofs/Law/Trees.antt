-- Laws of step 3, the number of trees (document 02, Q-4): with plots within the net area no tree that is recorded is lost on the way, and of none none are
-- made. Step 3 by itself takes any areas, and with greater plots it can make none of some (`lost`).
use Rattle.std.specs.Prelude.{ℕ, ◌*◌, ◌≤◌, ◌<◌, ◌≡◌, refl}
use Rattle.std.proofs.Common.{mul-le-mul_left, arith}
use Rattle.std.proofs.Math.Nat.{div-eq_of_lt}
use Rattle.std.proofs.lemmas.Nat.{le-div}
use Rattle.biomass.specs.Trees.{trees_of}

-- each of them stands for p/q trees, which is one or more; N is in hundredths
pub none_lost : (n p q : ℕ) → 0 < q → q ≤ p → 100 * n ≤ trees_of n p q
none_lost n p q some within = le-div _ _ _ (omega arith) (omega (arith, mul-le-mul_left n within))

pub none_made : (p q : ℕ) → 0 < q → trees_of 0 p q ≡ 0
none_made p q some = div-eq_of_lt (omega arith)

-- one tree on plots of 201 times the net area
pub lost : trees_of 1 1 201 ≡ 0
lost = refl
