-- Fractions: a numerator of either sign and a denominator, which is 1 or more wherever one is made. Sums, products and the order are those
-- of school, by cross-multiplication.
use Rattle.std.specs.Prelude.{ℕ, ◌*◌, ℤ, pos, ◌+ℤ◌, ◌-ℤ◌, ◌*ℤ◌, ◌≤ℤ◌}

pub record Fraction : Type 0 where
  pub num : ℤ
  pub den : ℕ

abbrev pub whole : ℤ → Fraction
whole n = record { num = n; den = 1 }

infixl 6 ◌⊕◌
abbrev pub ◌⊕◌ : Fraction → Fraction → Fraction
x ⊕ y = record { num = x.num *ℤ pos y.den +ℤ y.num *ℤ pos x.den; den = x.den * y.den }

infixl 6 ◌⊖◌
abbrev pub ◌⊖◌ : Fraction → Fraction → Fraction
x ⊖ y = record { num = x.num *ℤ pos y.den -ℤ y.num *ℤ pos x.den; den = x.den * y.den }

infixl 7 ◌⊗◌
abbrev pub ◌⊗◌ : Fraction → Fraction → Fraction
x ⊗ y = record { num = x.num *ℤ y.num; den = x.den * y.den }

-- an exact division by a whole number
infixl 7 ◌over◌
abbrev pub ◌over◌ : Fraction → ℕ → Fraction
x over m = record { num = x.num; den = x.den * m }

infix 5 ◌≼◌
pub record ◌≼◌ (x y : Fraction) : Type 0 where
  pub cross : (x.num *ℤ pos y.den) ≤ℤ (y.num *ℤ pos x.den)
