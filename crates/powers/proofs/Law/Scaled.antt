-- Roots of powers too long to be written out, told from some 19 leading digits.
-- A scaled number is m·2^e with a short m. After each product low bits are cut off, downward for a bound from below and upward for one from
-- above, so that m stays short; a power is raised by halving its exponent. One induction serves both ways of rounding. Where the bounds of
-- x^m, of 10^c·d^e and of (x + 1)^m lie apart, in this order, x is the root.
use Rattle.std.specs.Prelude.{◌≡◌, Bool, ◌&&◌, leb, ltb}
use Rattle.std.proofs.Common.{ap, one-mul, mul_assoc, mul-le-mul, mul-le-mul_right, le_refl, le_trans, le_of_lt, lt_of_le_of_lt, lt_of_lt_of_le, div-mul-le_self, mul-lt-mul_of_pos_right, pow-add, pow_pos, ltb-true}
use Rattle.std.proofs.Math.Bool.{true, false, and-eq-true_iff}
use Prim.Native.Nat.{ℕ, zero, suc, ◌+◌, ◌-◌, ◌*◌, ◌/◌, ◌%◌, ◌^◌, ◌≤◌, ◌<◌, min}
use Rattle.std.proofs.Math.Nat.{pow-zero, pow-suc, mul-one, mul-mul-mul_comm, lt-div-mul-add}
use native.Mathlib.Omega.{arith}
use Rattle.powers.specs.Greatest.{whole_root}
use Rattle.powers.proofs.Law.Greatest.{whole_root_is}

-- ---- scaled numbers

pub data Scaled : Type 0 where
  scaled : ℕ → ℕ → Scaled

value : Scaled → ℕ
value (scaled m e) = m * 2 ^ e

-- a number of more than 128 bits loses 64 of them. `up` is 0 where numbers are rounded down, 1 where they are rounded up
cut : ℕ → Bool → ℕ → ℕ → Scaled
cut up true m e = scaled (m / 2 ^ 64 + up) (e + 64)
cut up false m e = scaled m e

short : ℕ → Scaled → Scaled
unfolding cut
short up (scaled m e) = cut up (leb (2 ^ 128) m) m e

-- a product of two short numbers has some 256 bits, so that it is short when cut twice
times : ℕ → Scaled → Scaled → Scaled
unfolding short
times up (scaled m e) (scaled n f) = short up (short up (scaled (m * n) (e + f)))

square : ℕ → Scaled → Scaled
unfolding times
square up s = times up s s

-- s once more times x, where r is not 0
odd : ℕ → ℕ → Scaled → Scaled → Scaled
unfolding times
odd up zero x s = s
odd up (suc r) x s = times up x s

-- x ^ n, for an n of at most `bits` bits
raised : ℕ → ℕ → Scaled → ℕ → Scaled
unfolding odd square
raised up zero x n = scaled 1 0
raised up (suc bits) x n = odd up (n % 2) x (square up (raised up bits x (n / 2)))

-- ---- on which side a rounded number lies

-- R x y: the rounded x lies on this side of y. It does so of a number that was cut, and of products
record Rounding (up : ℕ) (R : ℕ → ℕ → Type 0) : Type 0 where
  same : {a : ℕ} → R a a
  chain : {a b c : ℕ} → R a b → R b c → R a c
  product : {a b c d : ℕ} → R a b → R c d → R (a * c) (b * d)
  cutting : (m e : ℕ) → R ((m / 2 ^ 64 + up) * 2 ^ (e + 64)) (m * 2 ^ e)

downward : Rounding 0 ◌≤◌
downward = record {
  same = le_refl _;
  chain = le_trans;
  product = mul-le-mul;
  cutting = λ m e. rw pow-add (omega (arith, mul-le-mul_right (2 ^ e) (div-mul-le_self m (2 ^ 64))));
}

upward : Rounding 1 (λ a b. b ≤ a)
upward = record {
  same = le_refl _;
  chain = λ p q. le_trans q p;
  product = mul-le-mul;
  cutting = λ m e. rw pow-add (omega (arith, mul-le-mul_right (2 ^ e) (lt-div-mul-add {a = m} (pow_pos 64))));
}

-- the rule by which a power is raised
halves : (v n : ℕ) → v ^ n ≡ v ^ (n % 2) * (v ^ (n / 2) * v ^ (n / 2))
halves v n = rw (← pow-add, ← pow-add) (ap (λ k. v ^ k) (omega arith))

module _ (up : ℕ) {R : ℕ → ℕ → Type 0} (rounding : Rounding up R) where
  short_side : (x : Scaled) → R (value (short up x)) (value x)
  unfolding short value
  short_side (scaled m e) = by_length (leb (2 ^ 128) m)
    where
      by_length : (long : Bool) → R (value (cut up long m e)) (m * 2 ^ e)
      by_length true = rounding.cutting m e
      by_length false = rounding.same

  times_side : (x y : Scaled) → R (value (times up x y)) (value x * value y)
  unfolding times value
  times_side (scaled m e) (scaled n f) =
      let once : R (value (short up (scaled (m * n) (e + f)))) (m * n * 2 ^ (e + f)) = short_side (scaled (m * n) (e + f)) in
      rounding.chain (short_side (short up (scaled (m * n) (e + f)))) (rw (pow-add, mul-mul-mul_comm) at once)

  odd_side : (r : ℕ) → r < 2 → (x s : Scaled) (v : ℕ) → R (value s) v → R (value (odd up r x s)) (value x ^ r * v)
  unfolding odd
  odd_side zero h x s v side = rw (pow-zero, one-mul) side
  odd_side (suc zero) h x s v side =
      rw (pow-suc, pow-zero, one-mul) (rounding.chain (times_side x s) (rounding.product rounding.same side))
  odd_side (suc (suc r)) h x s v side = absurd (omega arith)

  raised_side : (bits : ℕ) (x : Scaled) (n : ℕ) → n < 2 ^ bits → R (value (raised up bits x n)) (value x ^ n)
  unfolding raised value
  raised_side zero x n h = let none : n ≡ 0 = omega arith in rw (none, pow-zero) rounding.same
  raised_side (suc bits) x n h =
      let half : Scaled = raised up bits x (n / 2) in
      let side : R (value half) (value x ^ (n / 2)) = raised_side bits x (n / 2) (omega (arith, pow-suc 2 bits)) in
      rw (halves (value x) n)
      (odd_side (n % 2) (omega arith) x (square up half) (value x ^ (n / 2) * value x ^ (n / 2))
      (rounding.chain (times_side half half) (rounding.product side side)))

-- ---- the order

-- both are brought to the lesser of their exponents
below : Scaled → Scaled → Bool
below (scaled m e) (scaled n f) = ltb (m * 2 ^ (e - f)) (n * 2 ^ (f - e))

shift : (m j k e : ℕ) → j + k ≡ e → m * 2 ^ j * 2 ^ k ≡ m * 2 ^ e
shift m j k e h = rw (mul_assoc, ← pow-add, h)

below_lt : (x y : Scaled) → below x y ≡ true → value x < value y
unfolding below value
below_lt (scaled m e) (scaled n f) t =
    rw (shift m (e - f) (min e f) e (omega arith), shift n (f - e) (min e f) f (omega arith))
    at (mul-lt-mul_of_pos_right (ltb-true (m * 2 ^ (e - f)) (n * 2 ^ (f - e)) t) (pow_pos (min e f)))

-- ---- roots of 10^c·d^e

-- n ^ k, rounded, for a k of at most `bits` bits
unfoldable pub near : ℕ → ℕ → ℕ → ℕ → Scaled
unfolding raised
near bits up n k = raised up bits (scaled n 0) k

-- x is the root of 10^c·d^e with exponent m, as told from a lower and an upper bound of 10^c
unfoldable pub tested : ℕ → ℕ → ℕ → Scaled → Scaled → ℕ → ℕ → Bool
unfolding near times below
tested bits m e low high d x =
    below (near bits 1 x m) (times 0 low (near bits 0 d e)) && below (times 1 high (near bits 1 d e)) (near bits 0 (x + 1) m)

module _ (bits : ℕ) where
  near_not_above : (n k : ℕ) → k < 2 ^ bits → value (near bits 0 n k) ≤ n ^ k
  unfolding near value
  near_not_above n k h = rw mul-one at (raised_side 0 downward bits (scaled n 0) k h)

  near_not_below : (n k : ℕ) → k < 2 ^ bits → n ^ k ≤ value (near bits 1 n k)
  unfolding near value
  near_not_below n k h = rw mul-one at (raised_side 1 upward bits (scaled n 0) k h)

  -- what passes the test is the root
  pub whole_root_tested : (m c e : ℕ) → 0 < m → m < 2 ^ bits → c < 2 ^ bits → e < 2 ^ bits → (d x : ℕ)
      → tested bits m e (near bits 0 10 c) (near bits 1 10 c) d x ≡ true → whole_root m (10 ^ c * d ^ e) ≡ x
  unfolding tested
  whole_root_tested m c e positive hm hc he d x t =
      whole_root_is m (10 ^ c * d ^ e) x positive
      (le_trans (near_not_below x m hm) (le_trans (le_of_lt (below_lt (near bits 1 x m) low tests.0)) low_not_above))
      (lt_of_le_of_lt high_not_below (lt_of_lt_of_le (below_lt high (near bits 0 (x + 1) m) tests.1) (near_not_above (x + 1) m hm)))
    where
      low : Scaled
      low = times 0 (near bits 0 10 c) (near bits 0 d e)

      low_not_above : value low ≤ 10 ^ c * d ^ e
      low_not_above =
          le_trans (times_side 0 downward (near bits 0 10 c) (near bits 0 d e))
          (mul-le-mul (near_not_above 10 c hc) (near_not_above d e he))

      high : Scaled
      high = times 1 (near bits 1 10 c) (near bits 1 d e)

      high_not_below : 10 ^ c * d ^ e ≤ value high
      high_not_below =
          le_trans (mul-le-mul (near_not_below 10 c hc) (near_not_below d e he))
          (times_side 1 upward (near bits 1 10 c) (near bits 1 d e))

      tests : (below (near bits 1 x m) low ≡ true) × (below high (near bits 0 (x + 1) m) ≡ true)
      tests = (and-eq-true_iff (below (near bits 1 x m) low) (below high (near bits 0 (x + 1) m))).0 t
