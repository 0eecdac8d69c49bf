-- What an opening that is taken has passed: each of its checks. Among them that its plots are within the net area (document 02, Q-4), so that step 3 loses no
-- tree of its line.
use Rattle.std.specs.Prelude.{ℕ, ◌≤◌, ◌<◌, ◌≡◌, refl, Bool, true, false, Option, Some, leb}
use Rattle.std.proofs.Common.{arith, leb-false, ltb-false}
use Rattle.biomass.specs.Bounds.{Inside}
use Rattle.biomass.specs.Whole.{inside}
use Rattle.biomass.specs.Limits.{greatest_area}
use Rattle.biomass.specs.Report.{gives}
use Rattle.biomass.proofs.Law.Report.{inside_true, both_true}
use Rattle.codec.specs.declared.command.Species.{Species}
use Rattle.rules.specs.Checks.{most_lines, areas_in_range, plots_above, opening}
use Rattle.rules.proofs.Law.Passed.{Gives, passed}

-- "p is at least q", where 17 is not told
plots_within : (p q : ℕ) → plots_above p q ≡ false → q ≤ p
plots_within p q not_above = omega (arith, ltb-false _ _ not_above)

pub record Opens (p q : ℕ) (is_open : Bool) (there : Option Species) (before : Bool) (closed : ℕ) (x : Species) : Type 0 where
  pub p_in_range : Inside 1 p greatest_area
  pub q_in_range : Inside 1 q greatest_area
  -- "p is at least q"
  pub plots : q ≤ p
  pub none_open : is_open ≡ false
  pub is_declared : there ≡ Some x
  pub first : before ≡ false
  pub room : closed < most_lines

module _ (p q : ℕ) (is_open : Bool) (there : Option Species) (before : Bool) (closed : ℕ) where
  opens : (x : Species) → areas_in_range p q ≡ true → plots_above p q ≡ false → is_open ≡ false → there ≡ Some x → before ≡ false → leb most_lines closed ≡ false
      → Opens p q is_open there before closed x
  opens x in_range not_above none_open is_declared first room =
      let areas = both_true (inside 1 p greatest_area) (inside 1 q greatest_area) in_range in
      record {
        p_in_range = inside_true 1 p greatest_area areas.0;
        q_in_range = inside_true 1 q greatest_area areas.1;
        plots = plots_within p q not_above;
        none_open = none_open;
        is_declared = is_declared;
        first = first;
        room = leb-false most_lines closed room;
      }

  pub opening_passes : Gives (Opens p q is_open there before closed) (opening p q is_open there before closed)
  opening_passes = search (passed, opens) depth 16

-- the plots may be all of the net area
pub whole_area_opens : (x : Species) → opening 1 1 false (Some x) false 0 ≡ gives x
whole_area_opens x = refl
