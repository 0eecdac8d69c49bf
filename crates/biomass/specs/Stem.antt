-- Step 4, the stem: Equation 5, with pi taken as 3.14159265.
use Rattle.std.specs.Prelude.{ℕ, ◌*◌, ◌/◌, ◌^◌, cond, ℤ, pos, ◌+ℤ◌, ◌-ℤ◌, ◌*ℤ◌}
use Rattle.std.specs.Int.Signed.{le_z}
use Rattle.biomass.specs.Whole.{◌div◌, inside, square}
use Rattle.biomass.specs.Report.{Report, gives, unless}
use Rattle.biomass.specs.Mean.{d_in_range}
use Rattle.biomass.specs.Ends.{Ends, range}
use Rattle.biomass.specs.Units.{BiomassRange}

-- "Then G divides by 40000000" (document 02, Q-5): pi is in units of 10^-8, d of 10^-4 m, and the area, a quarter of pi·d², of 10^-9 m²
abbrev pub area_scale : ℕ
area_scale = 40000000

-- "G = 314159265·d² div" 40000000
abbrev pub G : ℕ → ℕ
G d = 314159265 * square d / area_scale

-- "A = 315049301·(10^9·T − 138763302) div 10^10."
abbrev pub A : ℕ → ℤ
A T = (pos 315049301 *ℤ (pos (10 ^ 9 * T) -ℤ pos 138763302)) div 10 ^ 10

-- "z = G − 118288000."
abbrev pub z : ℕ → ℤ
z d = pos (G d) -ℤ pos 118288000

-- "B = 360541·10^10·T."
abbrev pub B : ℕ → ℤ
B T = pos (360541 * 10 ^ 10 * T)

-- "If z ≥ 0, VL = B + A·z and VH = B + (A+1)·(z+1); else VL = B + (A+1)·z and VH = B + A·(z+1)."
unfoldable pub VL : ℕ → ℕ → ℤ
VL T d = cond (le_z (pos 0) (z d)) (B T +ℤ A T *ℤ z d) (B T +ℤ (A T +ℤ pos 1) *ℤ z d)

unfoldable pub VH : ℕ → ℕ → ℤ
VH T d = cond (le_z (pos 0) (z d)) (B T +ℤ (A T +ℤ pos 1) *ℤ (z d +ℤ pos 1)) (B T +ℤ A T *ℤ (z d +ℤ pos 1))

-- "L = VL div 10^8; H = VH div 10^8 + 1. With f the factor .. and s the gravity, low = L·f·s div 10000, high = H·f·s div 10000 + 1."
unfoldable pub stem_ends : ℕ → ℕ → ℕ → ℕ → Ends
stem_ends T d f s =
    let L = VL T d div 10 ^ 8 in
    let H = VH T d div 10 ^ 8 +ℤ pos 1 in
    record { low = (L *ℤ pos f *ℤ pos s) div 10000; high = (H *ℤ pos f *ℤ pos s) div 10000 +ℤ pos 1 }

-- d's "range 700 to 10000"; "T 1 to 50"; factor "(1, 100 to 200)"; "specific gravity in hundredths (1, 1 to 100)"
unfoldable pub stem : ℕ → ℕ → ℕ → ℕ → Report BiomassRange
stem T d f s =
    unless (inside 1 T 50) 6
    (unless (d_in_range d) 6
    (unless (inside 100 f 200) 6
    (unless (inside 1 s 100) 6
    (gives (range (stem_ends T d f s))))))
