-- Laws of the root: facts of its table, computed row by row, and the bounds of its ends that follow (Law.Ends).
use Rattle.std.specs.Prelude.{ℕ, zero, suc, ◌≤◌, ◌<◌, ◌^◌, refl, [], get_or, pos, ◌≤ℤ◌}
use Rattle.std.proofs.Common.{arith, lit≤, lit<}
use Rattle.biomass.specs.Bounds.{Rising, SoundRow, greatest_root, root_top}
use Rattle.powers.specs.Diameter.{greatest_d, root_limit}
use Rattle.biomass.specs.Root.{root_table, curve_b, line_a, line_b, y, root_ends}
use Rattle.biomass.proofs.Law.Power.{greatest_y, y_most}
use Rattle.biomass.proofs.Law.Ends.{Bounded, Coefficient, Group, group, coefficient_not_below, line_rising, part_bounded, sound_row}

-- the curves' greatest b
abbrev pub greatest_b : ℕ
greatest_b = 22700

-- each line is above 0 past the curve
root_group_lem : (g : ℕ) → g ≤ 5 → Group (curve_b g) (line_a g) (line_b g) greatest_b root_limit root_top
root_group_lem zero h = group tt tt tt tt tt
root_group_lem (suc zero) h = group tt tt tt tt tt
root_group_lem (suc (suc zero)) h = group tt tt tt tt tt
root_group_lem (suc (suc (suc zero))) h = group tt tt tt tt tt
root_group_lem (suc (suc (suc (suc zero)))) h = group tt tt tt tt tt
root_group_lem (suc (suc (suc (suc (suc zero))))) h = group tt tt tt tt tt
root_group_lem (suc (suc (suc (suc (suc (suc g)))))) h = absurd (omega arith)

pub root_b : (g : ℕ) → g ≤ 5 → Coefficient (curve_b g) greatest_b
root_b g h = (root_group_lem g h).coefficient

pub root_sound : (g : ℕ) → g ≤ 5 → SoundRow root_limit (get_or root_table g [])
root_sound g h = sound_row (root_group_lem g h) (lit< tt)

-- none is below 0, also of a group that is not in the table
pub root_b_not_below : (g : ℕ) → (pos 0) ≤ℤ (curve_b g)
root_b_not_below = coefficient_not_below root_table refl

pub root_rising : (g d : ℕ) → g ≤ 5 → root_limit < d → d ≤ greatest_d → Rising (line_a g) (line_b g) d
root_rising g d h after d_small = line_rising (root_group_lem g h).line d after d_small

pub root_bounded : (g d : ℕ) → g ≤ 5 → d ≤ greatest_d → Bounded (root_ends g d) 2 greatest_root
unfolding root_ends
root_bounded g d h d_small = part_bounded (root_group_lem g h) d (y d) greatest_y (10 ^ 5) d_small (y_most d) (lit< tt) (lit≤ tt) (lit< tt)
