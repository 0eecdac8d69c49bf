-- What is known of step 5's w and step 6's y.
-- Both are roots: w^m ≤ 10^c·d^e < (w + 1)^m, where m, c, e are crown_degree, crown_shift, crown_exponent for the crown and 2, 0, 5 for the root. There
-- are u = units_to_cm = 10^2 units of d to the cm, and c + 2·e is 5·m in both, so that 10^c·u^e is (10^5)^m. So where r/t is not below the
-- power, t^m·d^e ≤ r^m·u^e, and (w·t)^m ≤ (10^5·r)^m follows, hence w·t ≤ 10^5·r; the other end goes the same way, and w and w + 1, over
-- 10^5, are themselves such fractions. This is shown once, for any m, c and e, so that no such power is computed. Both rise with d.
use Rattle.std.specs.Prelude.{◌≡◌, refl, ℕ, zero, suc, ◌+◌, ◌*◌, ◌^◌, ◌≤◌, ◌<◌}
use Rattle.std.proofs.Math.Nat.{pow-zero, pow-lt-pow_left, pow-le-pow_left, one-le-pow, mul-mul-mul_comm}
use Rattle.std.proofs.Common.{pow-suc, one-mul, le_trans, mul-le-mul_left, mul-le-mul_right, le_of_mul-le-mul_right, mul-suc, mul-zero, not-le_of_lt, lt_of_not-le, le_of_suc-le-suc, le_of_eq, arith, lit<, lit≤, pow-add}
use Rattle.powers.specs.Greatest.{whole_root}
use Rattle.powers.specs.Diameter.{units_to_cm, crown_limit, root_limit}
use Rattle.powers.specs.Crown.{crown_exponent, crown_degree, crown_shift, w}
use Rattle.biomass.specs.Root.{y}
use Rattle.biomass.specs.Exact.{Given, NotBelowCrown, NotAboveCrown, NotBelowRoot, NotAboveRoot}
use Rattle.powers.proofs.Law.Greatest.{square_root_is, whole_root_not_above, whole_root_below, whole_root_rises}
use Rattle.powers.proofs.Law.Scaled.{near, tested}
use Rattle.powers.proofs.Law.Crown.{w_is}

-- ---- powers

-- a product's power
pub mul_pow : (a b m : ℕ) → (a * b) ^ m ≡ a ^ m * b ^ m
mul_pow a b zero = simp pow-zero
mul_pow a b (suc m) = rw (pow-suc (a * b), mul_pow a b m, pow-suc a, pow-suc b) (mul-mul-mul_comm (a ^ m) (b ^ m) a b)

-- a power's power
pub pow_mul : (a j m : ℕ) → (a ^ j) ^ m ≡ a ^ (j * m)
pow_mul a j zero = rw mul-zero (simp pow-zero)
pow_mul a j (suc m) = rw (pow-suc, pow_mul a j m, mul-suc, pow-add)

-- powers with one exponent are in the order of their bases
pub le_of_pow_le : {a b m : ℕ} → 0 < m → a ^ m ≤ b ^ m → a ≤ b
le_of_pow_le h le = le_of_suc-le-suc (lt_of_not-le (λ lt. not-le_of_lt (pow-lt-pow_left lt (omega arith)) le))

-- r/t that is not above a power of the diameter and r'/t' that is not below it are in order
ordered : (m e d r t r' t' : ℕ) → 0 < m → r ^ m * units_to_cm ^ e ≤ t ^ m * d ^ e → t' ^ m * d ^ e ≤ r' ^ m * units_to_cm ^ e → r * t' ≤ r' * t
ordered m e d r t r' t' positive h k =
    le_of_pow_le positive (rw (mul_pow r t' m, mul_pow r' t m)
    (le_of_mul-le-mul_right {k = units_to_cm ^ e} (omega (arith, mul-le-mul_right (t' ^ m) h, mul-le-mul_right (t ^ m) k)) (one-le-pow e units_to_cm (lit< tt))))

-- ---- a root of 10^c·d^e

module _ (m c e : ℕ) (positive : 0 < m) (five : c + 2 * e ≡ 5 * m) where
  -- 10^5 to the power m, its tens parted into those of 10^c and those of the unit
  tens : (10 ^ 5) ^ m ≡ 10 ^ c * units_to_cm ^ e
  tens = rw (pow_mul 10 5 m, ← five, pow-add, pow_mul 10 2 e)

  tens_of : (r : ℕ) → (10 ^ 5 * r) ^ m ≡ 10 ^ c * (r ^ m * units_to_cm ^ e)
  tens_of r = rw (mul_pow, tens) (omega arith)

  -- a fraction r/t that is not below the power is not under the root in units of 10^-5
  not_under : (d r t : ℕ) → t ^ m * d ^ e ≤ r ^ m * units_to_cm ^ e → whole_root m (10 ^ c * d ^ e) * t ≤ 10 ^ 5 * r
  not_under d r t h =
      le_of_pow_le positive (rw (mul_pow (whole_root m (10 ^ c * d ^ e)) t m, tens_of r)
      (omega (arith, mul-le-mul_right (t ^ m) (whole_root_not_above m (10 ^ c * d ^ e) positive), mul-le-mul_left (10 ^ c) h)))

  -- and one that is not above it is not over the root and 1
  not_over : (d r t : ℕ) → r ^ m * units_to_cm ^ e ≤ t ^ m * d ^ e → 10 ^ 5 * r ≤ (whole_root m (10 ^ c * d ^ e) + 1) * t
  not_over d r t h =
      le_of_pow_le positive (rw (mul_pow (whole_root m (10 ^ c * d ^ e) + 1) t m, tens_of r)
      (omega (arith, mul-le-mul_right (t ^ m) (whole_root_below m (10 ^ c * d ^ e) positive), mul-le-mul_left (10 ^ c) h)))

  -- the root itself, in units of 10^-5, is not above the power, and the root and 1 are not below it
  root_not_over : (d : ℕ) → whole_root m (10 ^ c * d ^ e) ^ m * units_to_cm ^ e ≤ (10 ^ 5) ^ m * d ^ e
  root_not_over d = rw tens (omega (arith, mul-le-mul_right (units_to_cm ^ e) (whole_root_not_above m (10 ^ c * d ^ e) positive)))

  next_not_under : (d : ℕ) → (10 ^ 5) ^ m * d ^ e ≤ (whole_root m (10 ^ c * d ^ e) + 1) ^ m * units_to_cm ^ e
  next_not_under d = rw tens (omega (arith, mul-le-mul_right (units_to_cm ^ e) (whole_root_below m (10 ^ c * d ^ e) positive)))

  -- the root rises with d
  rises : {d d' : ℕ} → d ≤ d' → whole_root m (10 ^ c * d ^ e) ≤ whole_root m (10 ^ c * d' ^ e)
  rises h = whole_root_rises m positive (mul-le-mul_left (10 ^ c) (pow-le-pow_left h e))

-- ---- fractions in units of 10^-5

abbrev pub units : ℕ → Given
units n = record { r = n; t = 10 ^ 5; t_at_least_1 = lit≤ tt }

-- ---- w

-- a fraction that is not below the crown power is not under w units of 10^-5
pub crown_power_not_under : (d : ℕ) (p : Given) → NotBelowCrown d p → w d * p.t ≤ 10 ^ 5 * p.r
unfolding w
crown_power_not_under d p h = not_under crown_degree crown_shift crown_exponent (lit< tt) refl d p.r p.t h.ge

-- and one that is not above it is not over w + 1 of them
pub crown_power_not_over : (d : ℕ) (p : Given) → NotAboveCrown d p → 10 ^ 5 * p.r ≤ (w d + 1) * p.t
unfolding w
crown_power_not_over d p h = not_over crown_degree crown_shift crown_exponent (lit< tt) refl d p.r p.t h.le

-- w units of 10^-5 are not above the crown power, and w + 1 of them are not below it
pub w_not_above : (d : ℕ) → NotAboveCrown d (units (w d))
unfolding w
w_not_above d = record { le = root_not_over crown_degree crown_shift crown_exponent (lit< tt) refl d }

pub next_w_not_below : (d : ℕ) → NotBelowCrown d (units (w d + 1))
unfolding w
next_w_not_below d = record { ge = next_not_under crown_degree crown_shift crown_exponent (lit< tt) refl d }

-- a fraction that is not above the crown power is not above one that is not below it
pub crown_powers_ordered : (d : ℕ) (p q : Given) → NotAboveCrown d p → NotBelowCrown d q → p.r * q.t ≤ q.r * p.t
crown_powers_ordered d p q h k = ordered crown_degree crown_exponent d p.r p.t q.r q.t (lit< tt) h.le k.ge

w_rises : {d d' : ℕ} → d ≤ d' → w d ≤ w d'
unfolding w
w_rises = rises crown_degree crown_shift crown_exponent (lit< tt) refl

-- the greatest w of a curve's diameter
abbrev pub greatest_w : ℕ
greatest_w = 1613760235

pub w_most : (d : ℕ) → d ≤ crown_limit → w d ≤ greatest_w
unfolding tested near
w_most d h = le_trans (w_rises h) (le_of_eq (w_is crown_limit greatest_w refl))

-- ---- y

-- d^5 as 10^0·d^5
alone : (d : ℕ) → 10 ^ 0 * d ^ 5 ≡ d ^ 5
alone d = one-mul (d ^ 5)

-- the same of the root power and y
pub root_power_not_under : (d : ℕ) (p : Given) → NotBelowRoot d p → y d * p.t ≤ 10 ^ 5 * p.r
unfolding y
root_power_not_under d p h = rw alone at (not_under 2 0 5 (lit< tt) refl d p.r p.t h.ge)

pub root_power_not_over : (d : ℕ) (p : Given) → NotAboveRoot d p → 10 ^ 5 * p.r ≤ (y d + 1) * p.t
unfolding y
root_power_not_over d p h = rw alone at (not_over 2 0 5 (lit< tt) refl d p.r p.t h.le)

pub root_powers_ordered : (d : ℕ) (p q : Given) → NotAboveRoot d p → NotBelowRoot d q → p.r * q.t ≤ q.r * p.t
root_powers_ordered d p q h k = ordered 2 5 d p.r p.t q.r q.t (lit< tt) h.le k.ge

pub y_not_above : (d : ℕ) → NotAboveRoot d (units (y d))
unfolding y
y_not_above d = record { le = rw alone at (root_not_over 2 0 5 (lit< tt) refl d) }

pub next_y_not_below : (d : ℕ) → NotBelowRoot d (units (y d + 1))
unfolding y
next_y_not_below d = record { ge = rw alone at (next_not_under 2 0 5 (lit< tt) refl d) }

y_rises : {d d' : ℕ} → d ≤ d' → y d ≤ y d'
unfolding y
y_rises h = whole_root_rises 2 (lit< tt) (pow-le-pow_left h 5)

-- y is the number between whose square and the next one's the power lies, so that it need not be computed
pub y_is : (d r : ℕ) → r * r ≤ d ^ 5 → d ^ 5 < (r + 1) * (r + 1) → y d ≡ r
unfolding y
y_is d r le lt = square_root_is (d ^ 5) r le lt

-- the greatest y of a curve's diameter
abbrev pub greatest_y : ℕ
greatest_y = 492950301

pub y_most : (d : ℕ) → d ≤ root_limit → y d ≤ greatest_y
y_most d h = le_trans (y_rises h) (le_of_eq (y_is root_limit greatest_y (lit≤ tt) (lit< tt)))
