-- Laws of the mean: the definition's d is the d of step 2, it is the only one, and it is in d's range.
-- Odd numbers and their squares rise with d, so there is one d at which step 2's first inequality holds for the last time.
use Rattle.std.specs.Prelude.{ℕ, suc, ◌+◌, ◌-◌, ◌*◌, ◌≤◌, ◌<◌, ◌≡◌, Bool, leb}
use Rattle.std.proofs.Common.{mul-le-mul, mul-le-mul_right, le_trans, lt_of_lt_of_le, lt_of_not-le, lt_irrefl, not-le_of_lt, le_of_suc-le-suc, arith, sym, subst}
use borrow.Author.Tests.{le-leb, lt-leb, leb-true}
use Rattle.biomass.specs.Whole.{square}
use Rattle.biomass.specs.Report.{gives}
use Rattle.powers.specs.Diameter.{units_to_cm, least_d, greatest_d}
use Rattle.biomass.specs.Limits.{most_measured}
use Rattle.biomass.specs.Mean.{square_scale, IsMean, mean_of, mean}
use Rattle.powers.proofs.Law.Greatest.{greatest_is, greatest_passes, le_greatest}
use Rattle.biomass.specs.Bounds.{Inside}
use Rattle.biomass.proofs.Law.Gives.{passed, figure_is}

-- the side of step 2's first inequality rises with d
side_mono : (n : ℕ) {d k : ℕ} → d ≤ k → square (2 * d - 1) * n ≤ square (2 * k - 1) * n
side_mono n {d} {k} h =
    let odd : 2 * d - 1 ≤ 2 * k - 1 = omega arith in
    mul-le-mul_right n (mul-le-mul odd odd)

-- a diameter at which the first inequality holds, and at the next no more, is the mean
pub mean_between : (n S d : ℕ) → d ≤ greatest_d → square (2 * d - 1) * n ≤ square_scale * S → square_scale * S < square (2 * (d + 1) - 1) * n → mean_of n S ≡ d
unfolding mean_of
mean_between n S d top le lt =
    greatest_is (λ k. leb (square (2 * k - 1) * n) (square_scale * S)) greatest_d d top (le-leb _ _ le)
    (λ k above up. lt-leb _ _ (lt_of_lt_of_le lt (side_mono n (omega arith))))

-- "S 49n to 10000n": the first inequality holds at the least d, and past the greatest no more
pub holds_at_least : (n S : ℕ) → 49 * n ≤ S → square (2 * least_d - 1) * n ≤ square_scale * S
holds_at_least n S h = omega arith

pub fails_past_greatest : (n S : ℕ) → 1 ≤ n → S ≤ 10000 * n → square_scale * S < square (2 * (greatest_d + 1) - 1) * n
fails_past_greatest n S one h = omega arith

-- 2(d + 1) − 1 is 2d + 1
next_odd : (d : ℕ) → 2 * (d + 1) - 1 ≡ 2 * d + 1
next_odd d = omega arith

module _ (n S : ℕ) (trees : Inside 1 n most_measured) (squares : Inside (49 * n) S (10000 * n)) where
  passes : ℕ → Bool
  passes d = leb (square (2 * d - 1) * n) (square_scale * S)

  -- the first inequality holds at the definition's d
  holds : square (2 * mean_of n S - 1) * n ≤ square_scale * S
  unfolding mean_of passes
  holds = leb-true _ _ (greatest_passes passes greatest_d (le-leb (0 * n) (square_scale * S) (omega arith)))

  from_least : least_d ≤ mean_of n S
  unfolding mean_of passes
  from_least = le_greatest passes greatest_d least_d (omega arith) (le-leb _ _ (holds_at_least n S squares.least))

  -- no d at which it holds is above the greatest, nor above the definition's d
  to_greatest : (d : ℕ) → square (2 * d - 1) * n ≤ square_scale * S → d ≤ greatest_d
  to_greatest d le =
      le_of_suc-le-suc (lt_of_not-le (λ (above : greatest_d + 1 ≤ d). not-le_of_lt (fails_past_greatest n S trees.least squares.most) (le_trans (side_mono n above) le)))

  is_greatest : (d : ℕ) → square (2 * d - 1) * n ≤ square_scale * S → d ≤ mean_of n S
  unfolding mean_of passes
  is_greatest d le = le_greatest passes greatest_d d (to_greatest d le) (le-leb _ _ le)

  -- the definition's d is the mean of step 2, and lies in d's range
  pub mean_is : IsMean n S (mean_of n S)
  mean_is =
      record {
        not_cut_off = omega (arith, from_least);
        not_above = holds;
        below = lt_of_not-le (λ le. lt_irrefl (mean_of n S) (omega (arith, is_greatest (mean_of n S + 1) (rw next_odd le))));
      }

  pub mean_range : Inside least_d (mean_of n S) greatest_d
  mean_range = record { least = from_least; most = to_greatest (mean_of n S) holds }

  -- and no other number is
  pub mean_only : (d : ℕ) → IsMean n S d → d ≡ mean_of n S
  mean_only d is = sym (mean_between n S d (to_greatest d is.not_above) is.not_above (rw next_odd is.below))

  -- it lies between the least class of the trees and the greatest, a and b
  pub mean_between_classes : (a b : ℕ) → square a * n ≤ S → S ≤ square b * n → Inside (units_to_cm * a) (mean_of n S) (units_to_cm * b)
  mean_between_classes a b least greatest =
      record {
        least =
            let odd : 2 * (units_to_cm * a) - 1 ≤ 2 * (units_to_cm * a) = omega arith in
            is_greatest (units_to_cm * a) (omega (arith, mul-le-mul_right n (mul-le-mul odd odd), least));
        most = le_of_suc-le-suc (lt_of_not-le (λ (above : suc (units_to_cm * b) ≤ mean_of n S).
            let odd : 2 * (units_to_cm * b) + 1 ≤ 2 * mean_of n S - 1 = omega arith in
            omega (arith, mul-le-mul_right n (mul-le-mul odd odd), holds, greatest, trees.least)));
      }

-- what the layer above is given: a mean that is given is step 2's, and is in d's range
pub record MeanGives (n S d : ℕ) : Type 0 where
  pub trees : Inside 1 n most_measured
  pub squares : Inside (49 * n) S (10000 * n)
  pub is : IsMean n S d
  pub range : Inside least_d d greatest_d

pub mean_gives : (n S d : ℕ) → mean n S ≡ gives d → MeanGives n S d
unfolding mean
mean_gives n S d e =
    let t = passed 1 n most_measured 6 _ e in
    let s = passed (49 * n) S (10000 * n) 6 (gives (mean_of n S)) t.next in
    subst (λ (m : ℕ). MeanGives n S m) (figure_is s.next) (record {
      trees = t.in_range;
      squares = s.in_range;
      is = mean_is n S t.in_range s.in_range;
      range = mean_range n S t.in_range s.in_range;
    })
