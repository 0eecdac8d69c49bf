-- Laws of the tariff: which report the tests of a single tariff's range make, and that a tariff which is given is 1 to 50, a line's too, since it is
-- the mean of numbers from 1 to 50.
use Rattle.std.specs.Prelude.{ℕ, ◌*◌, ◌/◌, ◌≡◌, refl, true, false, T, ℤ, pos, negsuc, nat_abs}
use Rattle.std.proofs.Common.{le_of_suc-le-suc, le-div_iff_mul-le, div-lt_iff_lt-mul, one-mul, subst, arith, sym, ltb-true, ltb-false, le-leb}
use Rattle.std.proofs.lemmas.Bool.{false≢true, lt-leb}
use Rattle.std.specs.Int.Signed.{lt_z, non_neg}
use Rattle.biomass.specs.Whole.{◌div◌}
use Rattle.biomass.specs.Report.{refused, gives}
use Rattle.biomass.specs.Limits.{most_heights}
use Rattle.biomass.specs.Tariff.{tariff_sum, from_one_to_fifty, single_tariff, line_tariff}
use Rattle.biomass.specs.Bounds.{Inside}
use Rattle.biomass.proofs.Law.Gives.{passed, figure_is, never}

-- a tariff below 1, one above 50, and one from 1 to 50
pub below_one : (t : ℤ) → lt_z t (pos 1) ≡ true → from_one_to_fifty t ≡ refused 13
below_one (pos t) h = simp (lt-leb 1 t (ltb-true t 1 h))
below_one (negsuc t) h = refl

pub above_fifty : (t : ℤ) → lt_z (pos 50) t ≡ true → from_one_to_fifty t ≡ refused 13
above_fifty (pos t) h = let above = ltb-true 50 t h in simp (le-leb 1 t (omega arith), lt-leb t 50 above)
above_fifty (negsuc t) h = refl

pub one_to_fifty : (t : ℤ) → lt_z t (pos 1) ≡ false → lt_z (pos 50) t ≡ false → from_one_to_fifty t ≡ gives (nat_abs t)
one_to_fifty (pos t) h k = simp (le-leb 1 t (ltb-false t 1 h), le-leb t 50 (ltb-false 50 t k))
one_to_fifty (negsuc t) h k = cc

-- a tariff that is not below 1 is not negative
pub not_below_one : (t : ℤ) → lt_z t (pos 1) ≡ false → T (non_neg t)
not_below_one (pos t) h = tt
not_below_one (negsuc t) h = absurd (false≢true (sym h))

-- ---- what the layer above is given

inside_fifty : (z : ℤ) (t : ℕ) → from_one_to_fifty z ≡ gives t → Inside 1 t 50
inside_fifty (pos n) t e = let p = passed 1 n 50 13 (gives n) e in subst (λ (m : ℕ). Inside 1 m 50) (figure_is p.next) p.in_range
inside_fifty (negsuc n) t e = never e

-- a single tariff that is given is 1 to 50
pub single_tariff_range : (c1 c2 c3 c4 : ℤ) (D h t : ℕ) → single_tariff c1 c2 c3 c4 D h ≡ gives t → Inside 1 t 50
unfolding single_tariff
single_tariff_range c1 c2 c3 c4 D h t e =
    let cm = passed 10 D 100 6 _ e in
    let tenths = passed 1 h 600 6 _ cm.next in
    inside_fifty (tariff_sum c1 c2 c3 c4 D h div 100000000) t tenths.next

-- and so is a line's: the mean of numbers from 1 to 50
pub line_tariff_range : (sum number T : ℕ) → line_tariff sum number ≡ gives T → Inside 1 T 50
unfolding line_tariff
line_tariff_range sum number T e =
    let n = passed 1 number most_heights 6 _ e in
    let s = passed number sum (50 * number) 6 (gives (sum / number)) n.next in
    subst (λ (m : ℕ). Inside 1 m 50) (figure_is s.next) (record {
      least = (le-div_iff_mul-le n.in_range.least).1 (rw one-mul s.in_range.least);
      most = le_of_suc-le-suc ((div-lt_iff_lt-mul n.in_range.least).1 (omega (arith, n.in_range, s.in_range)));
    })
