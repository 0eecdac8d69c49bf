-- Laws of the crown: facts of its table, computed row by row, and the bounds of its ends that follow (Law.Ends).
use Rattle.std.specs.Prelude.{ℕ, zero, suc, ◌≤◌, ◌<◌, ◌^◌, refl, [], get_or, pos, ◌≤ℤ◌}
use Rattle.std.proofs.Common.{arith, lit≤, lit<}
use Rattle.biomass.specs.Bounds.{Rising, SoundRow, crown_top, greatest_crown}
use Rattle.powers.specs.Diameter.{greatest_d, crown_limit}
use Rattle.biomass.specs.Crown.{crown_table, k, a, b, crown_ends}
use Rattle.powers.specs.Crown.{w}
use Rattle.biomass.proofs.Law.Power.{greatest_w, w_most}
use Rattle.biomass.proofs.Law.Ends.{Bounded, Coefficient, Group, group, coefficient_not_below, line_rising, part_bounded, sound_row}

-- the table's greatest k
abbrev pub greatest_k : ℕ
greatest_k = 438717

-- each line is above 0 past the curve
crown_group_lem : (g : ℕ) → g ≤ 7 → Group (k g) (a g) (b g) greatest_k crown_limit crown_top
crown_group_lem zero h = group tt tt tt tt tt
crown_group_lem (suc zero) h = group tt tt tt tt tt
crown_group_lem (suc (suc zero)) h = group tt tt tt tt tt
crown_group_lem (suc (suc (suc zero))) h = group tt tt tt tt tt
crown_group_lem (suc (suc (suc (suc zero)))) h = group tt tt tt tt tt
crown_group_lem (suc (suc (suc (suc (suc zero))))) h = group tt tt tt tt tt
crown_group_lem (suc (suc (suc (suc (suc (suc zero)))))) h = group tt tt tt tt tt
crown_group_lem (suc (suc (suc (suc (suc (suc (suc zero))))))) h = group tt tt tt tt tt
crown_group_lem (suc (suc (suc (suc (suc (suc (suc (suc g)))))))) h = absurd (omega arith)

pub crown_k : (g : ℕ) → g ≤ 7 → Coefficient (k g) greatest_k
crown_k g h = (crown_group_lem g h).coefficient

pub crown_sound : (g : ℕ) → g ≤ 7 → SoundRow crown_limit (get_or crown_table g [])
crown_sound g h = sound_row (crown_group_lem g h) (lit< tt)

-- none is below 0, also of a group that is not in the table
pub crown_k_not_below : (g : ℕ) → (pos 0) ≤ℤ (k g)
crown_k_not_below = coefficient_not_below crown_table refl

pub crown_rising : (g d : ℕ) → g ≤ 7 → crown_limit < d → d ≤ greatest_d → Rising (a g) (b g) d
crown_rising g d h after d_small = line_rising (crown_group_lem g h).line d after d_small

pub crown_bounded : (g d : ℕ) → g ≤ 7 → d ≤ greatest_d → Bounded (crown_ends g d) 2 greatest_crown
unfolding crown_ends
crown_bounded g d h d_small = part_bounded (crown_group_lem g h) d (w d) greatest_w (10 ^ 6) d_small (w_most d) (lit< tt) (lit≤ tt) (lit< tt)
