-- Step 5, the crown. Its w is powers/specs/Crown.antt.
use Rattle.std.specs.Prelude.{ℕ, ◌^◌, List, [], ◌∷◌, ℤ, pos, neg_ℤ}
use Rattle.powers.specs.Crown.{w}
use Rattle.biomass.specs.Report.{Report}
use Rattle.powers.specs.Diameter.{crown_limit}
use Rattle.biomass.specs.Ends.{Ends, entry, part_ends, part}
use Rattle.biomass.specs.Units.{BiomassRange}

-- "Crown groups 0 to 7, each a row of k, a and b, in Table 5.2.3's order (larches first, oak last). k is Table 5.2.2 in 10^-10 t; a and b
-- are Table 5.2.3 in mg."
abbrev pub crown_table : List (List ℤ)
crown_table =
    -- 0 larches
    (pos 438717 ∷ neg_ℤ (pos 129046967) ∷ pos 5039011 ∷ []) ∷
    -- 1 Corsican pine
    (pos 122645 ∷ neg_ℤ (pos 299529453) ∷ pos 9948982 ∷ []) ∷
    -- 2 lodgepole pine
    (pos 176287 ∷ neg_ℤ (pos 430536496) ∷ pos 14300429 ∷ []) ∷
    -- 3 Scots pine
    (pos 161411 ∷ neg_ℤ (pos 394205622) ∷ pos 13093685 ∷ []) ∷
    -- 4 firs, spruces, cedars and hemlocks
    (pos 144620 ∷ neg_ℤ (pos 353197843) ∷ pos 11731597 ∷ []) ∷
    -- 5 Douglas fir
    (pos 168602 ∷ neg_ℤ (pos 411767824) ∷ pos 13677021 ∷ []) ∷
    -- 6 beech
    (pos 188154 ∷ neg_ℤ (pos 459518648) ∷ pos 15263082 ∷ []) ∷
    -- 7 oak
    (pos 168513 ∷ neg_ℤ (pos 411550464) ∷ pos 13669801 ∷ []) ∷ []

abbrev pub k : ℕ → ℤ
k g = entry crown_table g 0

abbrev pub a : ℕ → ℤ
a g = entry crown_table g 1

abbrev pub b : ℕ → ℤ
b g = entry crown_table g 2

-- "low = k·w div 10^6, high = k·(w+1) div 10^6 + 1." "The crown changes equation above 5000", and "the straight lines use (100a + b·d) div 100": "high = low + 1"
-- there (document 01, step 5; document 02, Q-5).
-- (Every group, larches too: docs/DECISIONS.md, decision 1.)
unfoldable pub crown_ends : ℕ → ℕ → Ends
crown_ends g d = part_ends crown_table crown_limit w (10 ^ 6) g d

unfoldable pub crown : ℕ → ℕ → Report BiomassRange
crown g d = part 7 crown_ends g d
