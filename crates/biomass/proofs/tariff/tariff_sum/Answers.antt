-- `biomass::tariff::tariff_sum` meets its contract: each product is small (`times`), so every sum is far from the ends of 64 bits, and what the machine
-- reads back is the whole number itself.
use Rattle.std.proofs.Common.{◌≡◌, ◌∙◌, sym, ◌+◌, ◌*◌, ◌^◌, ◌≤◌, ◌<◌, ℕ, ℤ, pos, nat_abs, ◌+ℤ◌, ◌*ℤ◌, lt_of_le_of_lt, lit<, arith}
use Rattle.std.proofs.Math.IntN.{*ℤ_comm}
use Rattle.std.specs.Int.Signed.{mag}
use Rattle.biomass.specs.Tariff.{tariff_sum}
use Rattle.biomass.proofs.Law.Signed.{times_times}
use Rattle.biomass.proofs.Small.{Small, local, local32, fits, kept, plus, numeral, word, read_back, mag_le}
use Rattle.biomass.proofs.tariff.tariff_sum.Goals as goal

abbrev most : ℕ
most = 2 ^ 31 * 60000

-- what `times` promises of a product
abbrev Product : ℤ → ℤ → Type 0
Product r x = (r ≡ x) × (nat_abs r ≤ most)

addend : {r x : ℤ} → Product r x → Small (local r) x most
addend {r} p = record { is = read_back (lt_of_le_of_lt (mag_le r) (lt_of_le_of_lt p.1 (lit< tt))) ∙ p.0; size = rw (sym p.0) p.1 }

two : {p q x y : ℤ} → Product p x → Product q y → Small (local p +ℤ local q) (x +ℤ y) (most + most)
two p q = plus (addend p) (addend q)

three : {p q r x y z : ℤ} → Product p x → Product q y → Product r z → Small (local (local p +ℤ local q) +ℤ local r) (x +ℤ y +ℤ z) (most + most + most)
three p q r = plus (kept (two p q) tt) (addend r)

module _ {p q r s x y z u : ℤ} (P : Product p x) (Q : Product q y) (R : Product r z) (S : Product s u) where
  four : Small (local (local (local p +ℤ local q) +ℤ local r) +ℤ local s) (x +ℤ y +ℤ z +ℤ u) (most + most + most + most)
  four = plus (kept (three P Q R) tt) (addend S)

  all :
      Small
      (local (local (local (local p +ℤ local q) +ℤ local r) +ℤ local s) +ℤ pos 50000000)
      (x +ℤ y +ℤ z +ℤ u +ℤ pos 50000000)
      (most + most + most + most + 50000000)
  all = plus (kept four tt) (numeral 50000000)

-- a constant that is cast to itself
word_is : (c : ℤ) → mag c < 2 ^ 31 → local32 c ≡ c
word_is c small = (word (record { sfits = small })).is

terms : (c1 c2 c3 c4 : ℤ) (D h : ℕ) →
    c1 *ℤ pos 10 +ℤ c2 *ℤ pos h +ℤ c3 *ℤ pos (10 * D) +ℤ c4 *ℤ pos (D * h) +ℤ pos 50000000 ≡ tariff_sum c1 c2 c3 c4 D h
terms c1 c2 c3 c4 D h = rw (times_times c3 10 D, times_times c4 D h, *ℤ_comm c1 (pos 10), *ℤ_comm c3 (pos 10))

pub overflow_add-result-2 : goal.overflow_add-result-2
overflow_add-result-2 c = fits (three c.times.ensures c.times-2.ensures c.times-3.ensures) tt

pub overflow_add-result-3 : goal.overflow_add-result-3
overflow_add-result-3 c = fits (four c.times.ensures c.times-2.ensures c.times-3.ensures c.times-4.ensures) tt

pub overflow_add-result-4 : goal.overflow_add-result-4
overflow_add-result-4 c = fits (all c.times.ensures c.times-2.ensures c.times-3.ensures c.times-4.ensures) tt

pub returns : goal.returns
returns c =
    let s = c.args.constants in
    (kept (all c.times.ensures c.times-2.ensures c.times-3.ensures c.times-4.ensures) tt).is
    ∙ rw (word_is s.c1 (omega arith), word_is s.c2 (omega arith), word_is s.c3 (omega arith), word_is s.c4 (omega arith))
    (terms s.c1 s.c2 s.c3 s.c4 c.args.cm.number c.args.tenths.number)
