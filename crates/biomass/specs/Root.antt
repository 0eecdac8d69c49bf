-- Step 6, the root.
use Rattle.std.specs.Prelude.{ℕ, ◌^◌, List, [], ◌∷◌, ℤ, pos, neg_ℤ}
use Rattle.powers.specs.Greatest.{whole_root}
use Rattle.biomass.specs.Report.{Report}
use Rattle.powers.specs.Diameter.{root_limit}
use Rattle.biomass.specs.Ends.{Ends, entry, part_ends, part}
use Rattle.biomass.specs.Units.{BiomassRange}

-- "Root groups 0 to 5 in Table 5.2.4's order, b in mg. .. Above, as the crown above" 5000, "by Table 5.2.5."
-- Each row: b of Table 5.2.4, then a and b of Table 5.2.5, in mg
abbrev pub root_table : List (List ℤ)
root_table =
    -- 0 western red cedar, noble fir, Corsican pine
    (pos 10722 ∷ neg_ℤ (pos 82602857) ∷ pos 4515233 ∷ []) ∷
    -- 1 Norway spruce
    (pos 11883 ∷ neg_ℤ (pos 91547262) ∷ pos 5004152 ∷ []) ∷
    -- 2 grand fir, Scots pine, western hemlock
    (pos 15404 ∷ neg_ℤ (pos 118673233) ∷ pos 6486910 ∷ []) ∷
    -- 3 Douglas fir, Japanese larch, lodgepole pine
    (pos 17326 ∷ neg_ℤ (pos 133480423) ∷ pos 7296300 ∷ []) ∷
    -- 4 Sitka spruce
    (pos 20454 ∷ neg_ℤ (pos 157578701) ∷ pos 8613559 ∷ []) ∷
    -- 5 red alder
    (pos 22700 ∷ neg_ℤ (pos 174882004) ∷ pos 9559391 ∷ []) ∷ []

abbrev pub curve_b : ℕ → ℤ
curve_b g = entry root_table g 0

abbrev pub line_a : ℕ → ℤ
line_a g = entry root_table g 1

abbrev pub line_b : ℕ → ℤ
line_b g = entry root_table g 2

-- The root power is the diameter in cm to the power 5/2. y counts units of 10^-5 of it: in y² they come to 10^10, and d's unit takes all of that, 100^5.
-- "y is the greatest with" "y² ≤ d^5" (document 01, step 6; document 02, Q-5)
unfoldable pub y : ℕ → ℕ
y d = whole_root 2 (d ^ 5)

-- "low = b·y div 10^5, high = b·(y+1) div 10^5 + 1." "The root changes above 3000"
unfoldable pub root_ends : ℕ → ℕ → Ends
root_ends g d = part_ends root_table root_limit y (10 ^ 5) g d

unfoldable pub root : ℕ → ℕ → Report BiomassRange
root g d = part 5 root_ends g d
