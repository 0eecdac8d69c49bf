-- Step 5's w.
use Rattle.std.specs.Prelude.{ℕ, ◌*◌, ◌^◌, cond, leb}
use Rattle.powers.specs.Diameter.{least_d, crown_limit}
use Rattle.powers.specs.Greatest.{whole_root}

-- The crown power is the diameter in cm to the power 24767/10000
abbrev pub crown_exponent : ℕ
crown_exponent = 24767

abbrev pub crown_degree : ℕ
crown_degree = 10000

-- w counts units of 10^-5 of it: in w^10000 they come to 10^50000, of which d's unit takes 100^24767, that is 10^49534
abbrev pub crown_shift : ℕ
crown_shift = 466

-- "w is the greatest whole number" that "has w^10000 ≤ 10^466·d^24767" (document 01, step 5; document 02, Q-5)
unfoldable pub w : ℕ → ℕ
w d = whole_root crown_degree (10 ^ crown_shift * d ^ crown_exponent)

-- ".. for 4,301 values, its rule proved once over all of them": w at the diameters of the curve, and 0 at all others
abbrev pub tabled : ℕ → ℕ
tabled d = cond (leb least_d d) (cond (leb d crown_limit) (w d) 0) 0
