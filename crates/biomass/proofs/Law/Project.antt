-- What demand 3 says of the project's two figures, of any low sum L, high sum H and N trees. The sums of an accepted book's rows are as is asked here
-- (survey's Law.Demand3, which puts the clauses together).
use Rattle.std.specs.Prelude.{ℕ, zero, suc, ◌+◌, ◌*◌, ◌/◌, ◌≤◌, ◌<◌, ◌≡◌, refl, cond, eqb, pos}
use Rattle.std.proofs.Common.{zero-le, arith, lit<}
use Rattle.std.proofs.Math.Dec.{eqb-suc-zero}
use Rattle.biomass.specs.Ends.{between}
use Rattle.biomass.specs.Project.{project_of, dioxide}
use Rattle.biomass.specs.Fraction.{Fraction, whole, ◌⊗◌, ◌over◌, ◌≼◌}
use Rattle.biomass.proofs.Law.Signed.{pos_le}
use Rattle.biomass.proofs.Law.Fraction.{≼_trans, ⊗_mono, share_not_under, share_not_over}
use Rattle.biomass.specs.declared.units.Grams.{Grams}

-- of what is one thing where N is 0 and another where it is above
pub none_or_some : {A : Type 0} (P : A → Type 0) (N : ℕ) (a b : A) → (N ≡ 0 → P a) → (0 < N → P b) → P (cond (eqb N 0) a b)
none_or_some P zero a b none some = none refl
none_or_some P (suc n) a b none some = rw (eqb-suc-zero n) (some (omega arith))

-- so many mg, in grams of dioxide
abbrev grams : ℕ → ℕ
grams m = (dioxide (record { 0 = m })).0

module _ (L H N : ℕ) where
  -- "they are equal exactly when every N is 0"
  pub equal_of_none : N ≡ 0 → (project_of (between L H) N).low.0 ≡ (project_of (between L H) N).high.0
  equal_of_none h = rw h

  -- with trees, 1 is added to the high
  pub none_of_equal : L ≤ H → (project_of (between L H) N).low.0 ≡ (project_of (between L H) N).high.0 → N ≡ 0
  none_of_equal ordered = none_or_some (λ (high : Grams). grams L ≡ high.0 → N ≡ 0) N _ _ (λ none e. none) (λ some e. absurd (omega arith))

  -- "the high is at most the low + 3 + (the N of all lines added) div 1000". N is in hundredths: 11/6000 of 54 mg for each tree is less than
  -- N div 1000 + 1, and of what the rows' divisions leave, in hundredths of a mg, less than 1. The div of the low takes off less than 1, and the high has
  -- 1 added: less than N div 1000 + 4 in all
  pub project_gap : (left : ℕ) → 11 * left < 600000 → 100 * H ≤ 100 * L + 54 * N + left
      → (project_of (between L H) N).high.0 ≤ (project_of (between L H) N).low.0 + 3 + N / 1000
  project_gap left small near =
      none_or_some (λ (high : Grams). high.0 ≤ grams L + 3 + N / 1000) N _ _ (λ none. omega arith) (λ some. omega arith)

  -- the low is not above the high
  pub project_ordered : L ≤ H → (project_of (between L H) N).low.0 ≤ (project_of (between L H) N).high.0
  project_ordered ordered = none_or_some (λ (high : Grams). grams L ≤ high.0) N _ _ (λ none. omega arith) (λ some. omega arith)

  -- "Not under the low": 11/6000 of what is not under the low sum
  pub project_not_under : {x : Fraction} → whole (pos L) ≼ x → whole (pos (project_of (between L H) N).low.0) ≼ whole (pos 11) over 6000 ⊗ x
  project_not_under h = share_not_under 11 6000 L (lit< tt) h

  -- "Not over the high": 11/6000 of what is not over the high sum, also where no line has trees and no 1 is added
  pub project_not_over : {x : Fraction} → (N ≡ 0 → H ≡ 0) → x ≼ whole (pos H)
      → whole (pos 11) over 6000 ⊗ x ≼ whole (pos (project_of (between L H) N).high.0)
  project_not_over {x} high_of_none h =
      let share = whole (pos 11) over 6000 in
      none_or_some (λ (high : Grams). share ⊗ x ≼ whole (pos high.0)) N _ _
      (λ none.
      ≼_trans {y = share ⊗ whole (pos 0)} (lit< tt)
      (⊗_mono share (pos_le zero-le) (rw (high_of_none none) at h)) (record { cross = pos_le zero-le }))
      (λ some. share_not_over 11 6000 H (lit< tt) h)
