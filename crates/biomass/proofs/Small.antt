-- Signed arithmetic far from the ends of 64 bits. `Small X x k`: the machine's value X is the whole number x, which is at most k in size.
-- Sums and products of small numbers are small, with the bounds added and multiplied, so that each fits by one comparison of numerals.
use Prim.Native.Nat.{ℕ, ◌+◌, ◌*◌, ◌^◌, ◌≤◌, ◌<◌}
use native.Mathlib.Nat.{mul-le-mul, le_trans, lt_of_le_of_lt, le_of_eq, add-le-add}
use native.Mathlib.Omega.{arith}
use mathlib.Core.Path.{◌≡◌, refl, ap₂, ◌∙◌}
use lib.Dec.{T, ltb, ltb→lt}
use lib.IntN.{ℤ, pos, negsuc, nat_abs, ◌+ℤ◌, ◌*ℤ◌}
use lib.Signed.{mag, nat_abs-le}
use mir.Syntax.{w32, w64}
use mir.Val.{SFits, to_z, of_z}
use mir.Facts.{to_z-of_z, to_z_pos}
use Rattle.biomass.proofs.Law.Signed.{nat_abs_add, nat_abs_mul}

-- a number written to a local of 64 bits and read back
abbrev pub local : ℤ → ℤ
local X = to_z w64 (of_z w64 X)

-- it is what it was, where it fits
pub read_back : {z : ℤ} → mag z < 2 ^ 63 → local z ≡ z
read_back h = to_z-of_z {w = w64} (record { sfits = h })

-- one written to a local of 32 bits and read back
abbrev pub local32 : ℤ → ℤ
local32 X = to_z w32 (of_z w32 X)

pub record Small (X x : ℤ) (k : ℕ) : Type 0 where
  pub is : X ≡ x
  pub size : nat_abs x ≤ k

pub mag_le : (z : ℤ) → mag z ≤ nat_abs z
mag_le (pos n) = omega arith
mag_le (negsuc n) = omega arith

pub fits : {X x : ℤ} {k : ℕ} → Small X x k → T (ltb k (2 ^ 63)) → SFits w64 X
fits {x} {k} s t = rw s.is (record { sfits = omega (arith, mag_le x, s.size, ltb→lt k (2 ^ 63) t) })

pub kept : {X x : ℤ} {k : ℕ} → Small X x k → T (ltb k (2 ^ 63)) → Small (local X) x k
kept s t = record { is = to_z-of_z (fits s t) ∙ s.is; size = s.size }

pub plus : {X Y x y : ℤ} {j k : ℕ} → Small X x j → Small Y y k → Small (X +ℤ Y) (x +ℤ y) (j + k)
plus {x} {y} s r = record { is = ap₂ ◌+ℤ◌ s.is r.is; size = le_trans (nat_abs_add x y) (add-le-add s.size r.size) }

pub times : {X Y x y : ℤ} {j k : ℕ} → Small X x j → Small Y y k → Small (X *ℤ Y) (x *ℤ y) (j * k)
times {x} {y} s r = record { is = ap₂ ◌*ℤ◌ s.is r.is; size = le_trans (le_of_eq (nat_abs_mul x y)) (mul-le-mul s.size r.size) }

pub numeral : (n : ℕ) → Small (pos n) (pos n) n
numeral n = record { is = refl; size = omega arith }

-- a parameter that is an i64 of known size, and one that is an i32
pub double : {x : ℤ} {k : ℕ} → SFits w64 x → nat_abs x ≤ k → Small (local x) x k
double f h = record { is = to_z-of_z f; size = h }

pub word : {x : ℤ} → SFits w32 x → Small (local32 x) x (2 ^ 31)
word {x} f = record { is = to_z-of_z f; size = nat_abs-le x f.sfits }

-- a parameter that is a u64 of known size, cast to an i64
pub natural : {n : ℕ} (k : ℕ) → n ≤ k → T (ltb k (2 ^ 63)) → Small (to_z w64 n) (pos n) k
natural {n} k h t = record { is = to_z_pos w64 (lt_of_le_of_lt h (ltb→lt k (2 ^ 63) t)); size = h }
