-- Laws of ℤ. Every whole number z is a difference p − q of two naturals, in many ways: `Diff z p q`. A sum, a negation, a product and an
-- order of whole numbers are then those of naturals, which `omega` and the laws of ℕ prove: `le_from (add (mul ..) ..) (mul ..) (omega ..)`.
use Rattle.std.specs.Prelude.{ℕ, zero, suc, ◌+◌, ◌-◌, ◌*◌, ◌≤◌, ◌<◌, Bool, true, false, ◌≡◌, refl, ltb, ℤ, pos, negsuc, neg_ℤ, ◌+ℤ◌, ◌-ℤ◌, ◌*ℤ◌, nat_abs, ◌≤ℤ◌, ◌<ℤ◌}
use Rattle.std.proofs.Common.{le_of_lt, mul_assoc, arith, sym, ap, subst, ltb→lt, leb→le, le→leb, ltb-true, ltb-false, lt-ltb, le-ltb}
use Rattle.std.proofs.Math.IntN.{sub_ℕ}

-- z + q is p, said in ℕ
abbrev pub Balance : ℤ → ℕ → ℕ → Type 0
Balance (pos n) p q = n + q ≡ p
Balance (negsuc n) p q = p + suc n ≡ q

-- z is p − q
pub record Diff (z : ℤ) (p q : ℕ) : Type 0 where
  pub balance : Balance z p q

-- ---- differences and whole numbers

-- `sub_ℕ p q`, which ℤ's own sum is made of, is p − q
diff_pos : {p q : ℕ} → q ≤ p → sub_ℕ p q ≡ pos (p - q)
diff_pos {p} {q} h = rw (le-ltb p q h)

diff_negsuc : {p q : ℕ} → p < q → sub_ℕ p q ≡ negsuc (q - suc p)
diff_negsuc {p} {q} h = rw (lt-ltb p q h)

pub diff : (p q : ℕ) → Diff (sub_ℕ p q) p q
diff p q = go (ltb p q) refl
  where
    go : (t : Bool) → ltb p q ≡ t → Diff (sub_ℕ p q) p q
    go true e =
        let h : p < q = ltb-true p q e in
        subst (λ z. Diff z p q) (sym (diff_negsuc h)) (record { balance = omega arith })
    go false e =
        let h : q ≤ p = ltb-false p q e in
        subst (λ z. Diff z p q) (sym (diff_pos h)) (record { balance = omega arith })

-- there is one whole number p − q, however it is written
pub same : {a b : ℤ} {p q r s : ℕ} → Diff a p q → Diff b r s → p + s ≡ r + q → a ≡ b
same {a = pos a} {b = pos b} d e h = ap pos (omega arith)
same {a = pos a} {b = negsuc b} d e h = absurd (omega arith)
same {a = negsuc a} {b = pos b} d e h = absurd (omega arith)
same {a = negsuc a} {b = negsuc b} d e h = ap negsuc (omega arith)

-- the naturals that z is the difference of, one of them 0
abbrev pub plus : ℤ → ℕ
plus (pos n) = n
plus (negsuc n) = 0

abbrev pub minus : ℤ → ℕ
minus (pos n) = 0
minus (negsuc n) = suc n

pub parts : (z : ℤ) → Diff z (plus z) (minus z)
parts (pos n) = record { balance = omega arith }
parts (negsuc n) = record { balance = omega arith }

-- ---- sums, negations and products

-- another pair with the same difference
shifted : {z : ℤ} {p q r s : ℕ} → Diff z p q → p + s ≡ r + q → Diff z r s
shifted {z = pos n} d h = record { balance = omega arith }
shifted {z = negsuc n} d h = record { balance = omega arith }

pub add : {a b : ℤ} {p q r s : ℕ} → Diff a p q → Diff b r s → Diff (a +ℤ b) (p + r) (q + s)
add {a = pos a} {b = pos b} d e = record { balance = omega arith }
add {a = pos a} {b = negsuc b} d e = shifted (diff a (suc b)) (omega arith)
add {a = negsuc a} {b = pos b} d e = shifted (diff b (suc a)) (omega arith)
add {a = negsuc a} {b = negsuc b} d e = record { balance = omega arith }

pub neg : {a : ℤ} {p q : ℕ} → Diff a p q → Diff (neg_ℤ a) q p
neg {a = pos zero} d = record { balance = omega arith }
neg {a = pos (suc a)} d = record { balance = omega arith }
neg {a = negsuc a} d = record { balance = omega arith }

pub sub : {a b : ℤ} {p q r s : ℕ} → Diff a p q → Diff b r s → Diff (a -ℤ b) (p + s) (q + r)
sub d e = add d (neg e)

pub mul : {a b : ℤ} {p q r s : ℕ} → Diff a p q → Diff b r s → Diff (a *ℤ b) (p * r + q * s) (p * s + q * r)
mul {a = pos a} {b = pos b} d e = rw (← d.balance, ← e.balance) (record { balance = omega arith })
mul {a = pos a} {b = negsuc b} d e = rw (← d.balance, ← e.balance) (neg {a = pos (a * suc b)} (record { balance = omega arith }))
mul {a = negsuc a} {b = pos b} d e = rw (← d.balance, ← e.balance) (neg {a = pos (suc a * b)} (record { balance = omega arith }))
mul {a = negsuc a} {b = negsuc b} d e = rw (← d.balance, ← e.balance) (record { balance = omega arith })

-- a product by a natural
pub times : {a : ℤ} {p q : ℕ} → Diff a p q → (n : ℕ) → Diff (a *ℤ pos n) (p * n) (q * n)
times d n = shifted (mul d (parts (pos n))) (omega arith)

pub times_times : (a : ℤ) (m n : ℕ) → a *ℤ pos (m * n) ≡ a *ℤ pos m *ℤ pos n
times_times a m n = same (times (parts a) (m * n)) (times (times (parts a) m) n) (simp mul_assoc)

-- ---- the order, from that of naturals and back

pub le_from : {a b : ℤ} {p q r s : ℕ} → Diff a p q → Diff b r s → p + s ≤ r + q → a ≤ℤ b
le_from {a = pos a} {b = pos b} d e h = record { le = le→leb a b (omega arith) }
le_from {a = pos a} {b = negsuc b} d e h = absurd (omega arith)
le_from {a = negsuc a} {b = pos b} d e h = record { le = tt }
le_from {a = negsuc a} {b = negsuc b} d e h = record { le = le→leb b a (omega arith) }

pub le_to : {a b : ℤ} {p q r s : ℕ} → Diff a p q → Diff b r s → a ≤ℤ b → p + s ≤ r + q
le_to {a = pos a} {b = pos b} d e h = omega (arith, leb→le a b h.le)
le_to {a = pos a} {b = negsuc b} d e h = absurd h.le
le_to {a = negsuc a} {b = pos b} d e h = omega arith
le_to {a = negsuc a} {b = negsuc b} d e h = omega (arith, leb→le b a h.le)

pub pos_le : {m n : ℕ} → m ≤ n → (pos m) ≤ℤ (pos n)
pos_le {m} {n} h = record { le = le→leb m n h }

-- what is not below 0 is a natural
pub not_below_zero : {z : ℤ} → (pos 0) ≤ℤ z → Diff z (plus z) 0
not_below_zero {z = pos n} h = parts (pos n)
not_below_zero {z = negsuc n} h = absurd h.le

pub ≤ℤ-of-lt : {a b : ℤ} → a <ℤ b → a ≤ℤ b
≤ℤ-of-lt {a = pos a} {b = pos b} h = pos_le (le_of_lt (ltb→lt a b h.lt))
≤ℤ-of-lt {a = pos a} {b = negsuc b} h = absurd h.lt
≤ℤ-of-lt {a = negsuc a} {b = pos b} h = record { le = tt }
≤ℤ-of-lt {a = negsuc a} {b = negsuc b} h = record { le = le→leb b a (le_of_lt (ltb→lt b a h.lt)) }

-- ---- a difference of two naturals

pub pos_minus : {n b : ℕ} → n ≤ b → pos b -ℤ pos n ≡ pos (b - n)
pos_minus {n} {b} h = same (sub (parts (pos b)) (parts (pos n))) (parts (pos (b - n))) (omega arith)

pub pos_minus_more : {a b : ℕ} → a < b → pos a -ℤ pos b ≡ negsuc (b - suc a)
pos_minus_more {a} {b} h = same (sub (parts (pos a)) (parts (pos b))) (parts (negsuc (b - suc a))) (omega arith)

-- −1 − z swaps n and −(n + 1)
pub turn_natural : (n : ℕ) → negsuc 0 -ℤ pos n ≡ negsuc n
turn_natural n = same (sub (parts (negsuc 0)) (parts (pos n))) (parts (negsuc n)) (omega arith)

pub turn_negative : (n : ℕ) → negsuc 0 -ℤ negsuc n ≡ pos n
turn_negative n = same (sub (parts (negsuc 0)) (parts (negsuc n))) (parts (pos n)) (omega arith)

-- ---- sizes

size : {z : ℤ} {p q : ℕ} → Diff z p q → nat_abs z ≤ p + q
size {z = pos n} d = omega arith
size {z = negsuc n} d = omega arith

size_parts : (z : ℤ) → plus z + minus z ≡ nat_abs z
size_parts (pos n) = omega arith
size_parts (negsuc n) = omega arith

size_neg : (z : ℤ) → nat_abs (neg_ℤ z) ≡ nat_abs z
size_neg (pos zero) = refl
size_neg (pos (suc n)) = refl
size_neg (negsuc n) = refl

pub nat_abs_add : (a b : ℤ) → nat_abs (a +ℤ b) ≤ nat_abs a + nat_abs b
nat_abs_add a b = omega (arith, size (add (parts a) (parts b)), size_parts a, size_parts b)

pub nat_abs_mul : (a b : ℤ) → nat_abs (a *ℤ b) ≡ nat_abs a * nat_abs b
nat_abs_mul (pos a) (pos b) = refl
nat_abs_mul (pos a) (negsuc b) = size_neg (pos (a * suc b))
nat_abs_mul (negsuc a) (pos b) = size_neg (pos (suc a * b))
nat_abs_mul (negsuc a) (negsuc b) = refl
