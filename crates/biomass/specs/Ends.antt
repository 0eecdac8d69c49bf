-- A part's low and high. Steps 4 to 6 subtract on the way, so they are worked in ℤ, and the ends come out there.
use Rattle.std.specs.Prelude.{ℕ, ◌+◌, cond, leb, List, [], get_or, ℤ, pos, ◌+ℤ◌, ◌*ℤ◌, nat_abs}
use Rattle.biomass.specs.Whole.{◌div◌, inside}
use Rattle.biomass.specs.Report.{Report, gives, unless}
use Rattle.biomass.specs.Mean.{d_in_range}
use Rattle.powers.specs.Diameter.{units_to_cm}
use Rattle.biomass.specs.Units.{BiomassRange}

pub record Ends : Type 0 where
  pub low : ℤ
  pub high : ℤ

-- a low and a high in mg, as the code has them
abbrev pub between : ℕ → ℕ → BiomassRange
between l h = record { low = record { 0 = l }; high = record { 0 = h } }

-- The ends as the code hands them back, which are numbers without a sign. nat_abs has no sign to take off here: both ends of each part are 0 or above,
-- wherever the operands are in their ranges (Law.Tree: parts_bounded)
abbrev pub range : Ends → BiomassRange
range e = between (nat_abs e.low) (nat_abs e.high)

-- The number in a table, by its row and its column, both counted from 0. The groups are the rows; a group past the last, which `crown` and `root` refuse,
-- has an empty row and 0 in each column
abbrev pub entry : List (List ℤ) → ℕ → ℕ → ℤ
entry table group column = get_or (get_or table group []) column (pos 0)

-- A coefficient times a power of the diameter, of which p whole units, m to the mg, are known: "low = k·w div 10^6, high = k·(w+1) div 10^6 + 1"
abbrev pub curve : ℤ → ℕ → ℕ → Ends
curve k p m = record { low = (k *ℤ pos p) div m; high = (k *ℤ pos (p + 1)) div m +ℤ pos 1 }

-- "The straight lines use (100a + b·d) div 100" (document 02, Q-5), and "high = low + 1"
abbrev pub straight : ℤ → ℤ → ℕ → Ends
straight a b d =
    let low = (pos units_to_cm *ℤ a +ℤ b *ℤ pos d) div units_to_cm in
    record { low = low; high = low +ℤ pos 1 }

-- The ends of a part that is worked by groups, on its curve up to `limit` and on its straight line above: each group's row is a coefficient, and the
-- line's a and b
abbrev pub part_ends : List (List ℤ) → ℕ → (ℕ → ℕ) → ℕ → ℕ → ℕ → Ends
part_ends table limit power m g d =
    cond (leb d limit) (curve (entry table g 0) (power d) m) (straight (entry table g 1) (entry table g 2) d)

-- and what is reported of it, where its groups are 0 to `last`
abbrev pub part : ℕ → (ℕ → ℕ → Ends) → ℕ → ℕ → Report BiomassRange
part last ends g d =
    unless (inside 0 g last) 6
    (unless (d_in_range d) 6
    (gives (range (ends g d))))
