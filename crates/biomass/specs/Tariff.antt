-- Step 1, the tariff.
use Rattle.std.specs.Prelude.{ℕ, ◌*◌, ◌/◌, ℤ, pos, negsuc, ◌+ℤ◌, ◌*ℤ◌}
use Rattle.biomass.specs.Whole.{◌div◌, inside}
use Rattle.biomass.specs.Report.{Report, refused, gives, unless}
use Rattle.biomass.specs.Limits.{most_heights}

-- "Single tariff (Equation 2): (10·c1 + c2·h + 10·c3·D + c4·D·h + 50,000,000) div 100,000,000, with D in cm and h in tenths of a metre."
abbrev pub tariff_sum : ℤ → ℤ → ℤ → ℤ → ℕ → ℕ → ℤ
tariff_sum c1 c2 c3 c4 D h =
    pos 10 *ℤ c1 +ℤ c2 *ℤ pos h +ℤ pos 10 *ℤ c3 *ℤ pos D +ℤ c4 *ℤ pos D *ℤ pos h +ℤ pos 50000000

-- "A single tariff is 1 to 50."
abbrev pub from_one_to_fifty : ℤ → Report ℕ
from_one_to_fifty (pos t) = unless (inside 1 t 50) 13 (gives t)
from_one_to_fifty (negsuc t) = refused 13

-- height tree: "cm (1, 10 to 100), height in tenths of a metre (2, 1 to 600)"; "6; then 13"
unfoldable pub single_tariff : ℤ → ℤ → ℤ → ℤ → ℕ → ℕ → Report ℕ
single_tariff c1 c2 c3 c4 D h =
    unless (inside 10 D 100) 6
    (unless (inside 1 h 600) 6
    (from_one_to_fifty (tariff_sum c1 c2 c3 c4 D h div 100000000)))

-- "Line tariff T: sum of single tariffs div their number." There are at most 1,000 of them, each 1 to 50
unfoldable pub line_tariff : ℕ → ℕ → Report ℕ
line_tariff sum number =
    unless (inside 1 number most_heights) 6
    (unless (inside number sum (50 * number)) 6
    (gives (sum / number)))
