-- Laws of `greatest` and of `whole_root`.
-- `greatest` is the one number that passes with none above it passing. A root is the one r with r ^ k ≤ x < (r + 1) ^ k, because powers
-- rise with their base.
use Rattle.std.proofs.Math.Path.{◌≡◌, refl}
use Rattle.std.specs.Prelude.{Bool, ◌⊎◌, leb}
use Rattle.std.proofs.Math.Bool.{true, false, cond}
use Rattle.std.proofs.Common.{inl, inr, pow-suc, one-mul, le-mul_of_pos_right, not-suc-le-zero, mul-zero, le_trans, le_refl, lt_of_lt_of_le, lt_of_not-le, eq-or-lt_of_le, lit<, leb-true, le-leb}
use Prim.Native.Nat.{ℕ, zero, suc, ◌+◌, ◌*◌, ◌^◌, ◌≤◌, ◌<◌, zero-le, suc-le-suc}
use Rattle.std.proofs.Math.Nat.{pow-zero, pow-succ', one-le-pow, pow-le-pow_left}
use native.Mathlib.Omega.{arith}
use Rattle.std.proofs.lemmas.Bool.{lt-leb}
use Rattle.powers.specs.Greatest.{greatest, whole_root}

-- ---- greatest

module _ (passes : ℕ → Bool) where
  -- a number that passes where none above it does is the greatest
  pub greatest_is : (bound g : ℕ) → g ≤ bound → passes g ≡ true → ((n : ℕ) → g < n → n ≤ bound → passes n ≡ false) → greatest passes bound ≡ g
  unfolding greatest
  greatest_is zero g h ok none = omega arith
  greatest_is (suc n) g h ok none = next (eq-or-lt_of_le h) (λ le. greatest_is n g le ok (λ m lt up. none m lt (omega arith)))
    where
      next : (g ≡ suc n) ⊎ (g < suc n) → (g ≤ n → greatest passes n ≡ g) → cond (passes (suc n)) (suc n) (greatest passes n) ≡ g
      next (inl e) below = rw (← e, ok)
      next (inr lt) below = rw (none (suc n) lt (le_refl (suc n))) (below (omega arith))

  -- the greatest passes where 0 does
  pub greatest_passes : (bound : ℕ) → passes zero ≡ true → passes (greatest passes bound) ≡ true
  unfolding greatest
  greatest_passes zero ok = ok
  greatest_passes (suc n) ok = next (passes (suc n)) refl (greatest_passes n ok)
    where
      next : (b : Bool) → passes (suc n) ≡ b → passes (greatest passes n) ≡ true → passes (cond b (suc n) (greatest passes n)) ≡ true
      next true e below = e
      next false e below = below

  -- a number that passes is not above the greatest
  pub le_greatest : (bound n : ℕ) → n ≤ bound → passes n ≡ true → n ≤ greatest passes bound
  unfolding greatest
  le_greatest zero n h ok = h
  le_greatest (suc m) n h ok = next (passes (suc m)) refl (eq-or-lt_of_le h) (λ le. le_greatest m n le ok)
    where
      next : (b : Bool) → passes (suc m) ≡ b → (n ≡ suc m) ⊎ (n < suc m) → (n ≤ m → n ≤ greatest passes m) → n ≤ cond b (suc m) (greatest passes m)
      next true e s below = h
      next false e (inl s) below = let clash : ◌≡◌ {A = ℕ} 0 1 = cc in omega arith
      next false e (inr lt) below = below (omega arith)

-- ---- root

-- a power with an exponent from 1 is not below its base
le_pow_self : (r k : ℕ) → 0 < k → r ≤ r ^ k
le_pow_self zero k h = zero-le
le_pow_self (suc r) zero h = absurd (not-suc-le-zero h)
le_pow_self (suc r) (suc k) h = rw pow-succ' (le-mul_of_pos_right (suc r) (one-le-pow k (suc r) (suc-le-suc zero-le)))

-- a number whose power is not above x is not above the root
pub le_whole_root : (k x n : ℕ) → 0 < k → n ^ k ≤ x → n ≤ whole_root k x
unfolding whole_root
le_whole_root k x n h le = le_greatest (λ r. leb (r ^ k) x) x n (le_trans (le_pow_self n k h) le) (le-leb (n ^ k) x le)

-- the root is the r between whose power and the next one's x lies
pub whole_root_is : (k x r : ℕ) → 0 < k → r ^ k ≤ x → x < (r + 1) ^ k → whole_root k x ≡ r
unfolding whole_root
whole_root_is k x r h le lt =
    greatest_is (λ n. leb (n ^ k) x) x r (le_trans (le_pow_self r k h) le) (le-leb (r ^ k) x le)
    (λ n above up. lt-leb (n ^ k) x (lt_of_lt_of_le lt (pow-le-pow_left (omega arith) k)))

pub pow_two : (n : ℕ) → n ^ 2 ≡ n * n
pow_two n = rw (pow-suc n 1, pow-suc n 0, pow-zero, one-mul)

-- the square root, between two squares
pub square_root_is : (x r : ℕ) → r * r ≤ x → x < (r + 1) * (r + 1) → whole_root 2 x ≡ r
square_root_is x r le lt = whole_root_is 2 x r (lit< tt) (rw pow_two le) (rw pow_two lt)

-- so that 0 passes the root's test
zero_pow_le : {x : ℕ} (k : ℕ) → 0 < k → 0 ^ k ≤ x
zero_pow_le zero h = absurd (not-suc-le-zero h)
zero_pow_le (suc k) h = rw (pow-suc, mul-zero) zero-le

-- and the root does lie so
pub whole_root_not_above : (k x : ℕ) → 0 < k → whole_root k x ^ k ≤ x
unfolding whole_root
whole_root_not_above k x h = leb-true (whole_root k x ^ k) x (greatest_passes (λ r. leb (r ^ k) x) x (le-leb (0 ^ k) x (zero_pow_le k h)))

pub whole_root_below : (k x : ℕ) → 0 < k → x < (whole_root k x + 1) ^ k
whole_root_below k x h = lt_of_not-le (λ le. let up : whole_root k x + 1 ≤ whole_root k x = le_whole_root k x (whole_root k x + 1) h le in omega arith)

-- a greater number's root is no lesser
pub whole_root_rises : {x y : ℕ} (k : ℕ) → 0 < k → x ≤ y → whole_root k x ≤ whole_root k y
whole_root_rises {x} {y} k h le = le_whole_root k y (whole_root k x) h (le_trans (whole_root_not_above k x h) le)
