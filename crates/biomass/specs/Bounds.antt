-- What the routines of this crate and of those above ask of each other, and how great a figure can be. No public routine asks for any of it, and no promise
-- about a figure or a book is stated by it: what is so of these bounds is proved (Law.Stem, Law.Crown, Law.Root, Law.Tree, Law.SmallTrees).
use Rattle.std.specs.Prelude.{ℕ, ◌+◌, ◌*◌, ◌/◌, ◌^◌, ◌≤◌, ◌<◌, ◌≡◌, List, get_or, ℤ, pos, nat_abs, ◌+ℤ◌, ◌*ℤ◌}
use Rattle.powers.specs.Diameter.{units_to_cm, least_d, greatest_d}
use Rattle.biomass.specs.Limits.{most_estimated, greatest_carbon}

-- x is from lo to hi, as a fact
pub record Inside (lo x hi : ℕ) : Type 0 where
  pub least : lo ≤ x
  pub most : x ≤ hi

-- d's "range 700 to 10000"; "T 1 to 50"
abbrev pub InRange : ℕ → ℕ → Type 0
InRange T d = (1 ≤ T) × (T ≤ 50) × (least_d ≤ d) × (d ≤ greatest_d)

-- A straight line that has risen above 0 at d: `risen` is how far, with `units_to_cm` of it to the mg. The bounds keep it within 64 bits
pub record Rising (start rise : ℤ) (d : ℕ) : Type 0 where
  pub risen : ℕ
  pub is : pos units_to_cm *ℤ start +ℤ rise *ℤ pos d ≡ pos risen
  pub start_small : nat_abs start ≤ 10 ^ 9
  pub rise_small : nat_abs rise ≤ 10 ^ 9
  pub d_small : d ≤ greatest_d

-- A row of a table of groups, whose curve ends at `limit`: its coefficient is 0 or above, and small, and past the curve its line has risen
pub record SoundRow (limit : ℕ) (row : List ℤ) : Type 0 where
  pub is_whole : get_or row 0 (pos 0) ≡ pos (nat_abs (get_or row 0 (pos 0)))
  pub small : nat_abs (get_or row 0 (pos 0)) < 2 ^ 20
  pub rising : (d : ℕ) → limit < d → d ≤ greatest_d → Rising (get_or row 1 (pos 0)) (get_or row 2 (pos 0)) d

-- the greatest VH
abbrev pub greatest_volume : ℕ
greatest_volume = 1228217028537058651

-- the stem's ends from those of its volume, l and h, as naturals
abbrev pub stem_low : ℕ → ℕ → ℕ → ℕ
stem_low l f s = l / 10 ^ 8 * f * s / 10000

abbrev pub stem_high : ℕ → ℕ → ℕ → ℕ
stem_high h f s = (h / 10 ^ 8 + 1) * f * s / 10000 + 1

-- the high of the greatest volume, at the greatest factor and gravity
abbrev pub greatest_stem : ℕ
greatest_stem = stem_high greatest_volume 200 100

-- the mg at which the highest line of the crown ends, and of the root. A high is 1 above its low on the line, and so 1 above that at most
abbrev pub crown_top : ℕ
crown_top = 1066789552

abbrev pub greatest_crown : ℕ
greatest_crown = crown_top + 1

abbrev pub root_top : ℕ
root_top = 781057096

abbrev pub greatest_root : ℕ
greatest_root = root_top + 1

-- The greatest highs of the three parts added, in mg
abbrev pub greatest_tree : ℕ
greatest_tree = greatest_stem + greatest_crown + greatest_root

-- The high of the greatest number of the greatest tree, in mg
abbrev pub greatest_row : ℕ
greatest_row = most_estimated * greatest_tree / 100 + 1

-- and of the greatest small tree
abbrev pub greatest_small : ℕ
greatest_small = most_estimated * (2 * greatest_carbon) / 100 + 1
