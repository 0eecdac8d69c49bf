-- Laws of a part's ends. The crown and the root are alike: a curve up to some diameter, a straight line above it. What is common to both is
-- stated here, over the coefficients; Law.Crown and Law.Root add the facts of the two tables.
use Rattle.std.specs.Prelude.{ℕ, zero, suc, ◌+◌, ◌-◌, ◌*◌, ◌/◌, ◌≤◌, ◌<◌, ◌^◌, Bool, true, false, cond, ◌≡◌, refl, List, [], ◌∷◌, get_or, T, leb, ℤ, pos, negsuc, neg_ℤ, nat_abs, ◌+ℤ◌, ◌*ℤ◌, ◌≤ℤ◌}
use Rattle.std.proofs.Common.{le_trans, lt_of_le_of_lt, mul-le-mul, mul-le-mul_left, div-mul-le_self, le-div_iff_mul-le, div-lt_iff_lt-mul, arith, sym, subst, lit≤, leb-true, leb-false}
use Rattle.std.proofs.Math.Nat.{lt-div-mul-add}
use Rattle.std.specs.Int.Signed.{le_z, le_z_yes}
use Rattle.biomass.specs.Bounds.{Rising, SoundRow}
use Rattle.biomass.specs.Whole.{◌div◌}
use Rattle.powers.specs.Diameter.{units_to_cm, greatest_d}
use Rattle.biomass.specs.Ends.{Ends, entry, curve, straight}
use Rattle.biomass.proofs.Law.Report.{both_true}
use Rattle.biomass.proofs.Law.Signed.{Diff, parts, add, neg, mul, same}

-- What is known of a part's ends e: both are 0 or above, so that `range e` has the same numbers; the low is not above the high; they are
-- at most `gap` mg apart; and the high is at most `most`.
pub record Bounded (e : Ends) (gap most : ℕ) : Type 0 where
  pub low_whole : e.low ≡ pos (nat_abs e.low)
  pub high_whole : e.high ≡ pos (nat_abs e.high)
  pub ordered : nat_abs e.low ≤ nat_abs e.high
  pub near : nat_abs e.high ≤ nat_abs e.low + gap
  pub small : nat_abs e.high ≤ most

-- A curve's coefficient: 0 or above, and at most `most`
pub record Coefficient (k : ℤ) (most : ℕ) : Type 0 where
  pub is_whole : k ≡ pos (nat_abs k)
  pub small : nat_abs k ≤ most

-- A table whose coefficients, its first column, are none below 0. So a group's is not, in the table or past it
abbrev pub wholes : List (List ℤ) → Bool
wholes [] = true
wholes (row ∷ rows) = cond (le_z (pos 0) (get_or row 0 (pos 0))) (wholes rows) false

pub coefficient_not_below : (table : List (List ℤ)) → wholes table ≡ true → (g : ℕ) → (pos 0) ≤ℤ (entry table g 0)
coefficient_not_below [] e g = le_z_yes tt
coefficient_not_below (row ∷ rows) e zero = le_z_yes (rw (both_true (le_z (pos 0) (get_or row 0 (pos 0))) (wholes rows) e).0 tt)
coefficient_not_below (row ∷ rows) e (suc g) = coefficient_not_below rows (both_true (le_z (pos 0) (get_or row 0 (pos 0))) (wholes rows) e).1 g

-- A straight line that begins below 0, is not below it from the diameter after `from` on, and is at most `top` mg at the greatest diameter
pub record Line (start rise : ℤ) (from top : ℕ) : Type 0 where
  pub falls : start ≡ neg_ℤ (pos (nat_abs start))
  pub rises : rise ≡ pos (nat_abs rise)
  pub above : units_to_cm * nat_abs start ≤ nat_abs rise * suc from
  pub below : nat_abs rise * greatest_d ≤ units_to_cm * nat_abs start + units_to_cm * top
  pub start_small : nat_abs start ≤ 10 ^ 9
  pub rise_small : nat_abs rise ≤ 10 ^ 9

-- Either side of a limit
pub either_side : (P : Bool → Type 0) (d limit : ℕ) → (d ≤ limit → P true) → (limit < d → P false) → P (leb d limit)
either_side P d limit under over = go (leb d limit) refl
  where
    go : (t : Bool) → leb d limit ≡ t → P t
    go true e = under (leb-true d limit e)
    go false e = over (leb-false d limit e)

-- As k is at most m, k·(p+1) div m is at most 1 more than k·p div m; and p is at most q, which bounds the high
curve_bounded : (k : ℤ) (p m most q top : ℕ) → Coefficient k most → 0 < m → most ≤ m → p ≤ q → most * (q + 1) < top * m
    → Bounded (curve k p m) 2 top
curve_bounded k p m most q top c m_some most_m p_q fits =
    subst (λ z. Bounded (curve z p m) 2 top) (sym c.is_whole) (go (nat_abs k) c.small)
  where
    go : (n : ℕ) → n ≤ most → Bounded (curve (pos n) p m) 2 top
    go n n_most =
        let one_more : n * p ≤ n * (p + 1) = omega arith in
        let not_over : n * p / m ≤ n * (p + 1) / m = (le-div_iff_mul-le m_some).1 (le_trans (div-mul-le_self (n * p) m) one_more) in
        let next : n * (p + 1) < (n * p / m + 2) * m = omega (arith, lt-div-mul-add {a = n * p} m_some) in
        let near : n * (p + 1) / m < n * p / m + 2 = (div-lt_iff_lt-mul m_some).1 next in
        let at_most : n * (p + 1) < top * m = lt_of_le_of_lt (mul-le-mul n_most (omega arith)) fits in
        let small : n * (p + 1) / m < top = (div-lt_iff_lt-mul m_some).1 at_most in
        record { low_whole = refl; high_whole = refl; ordered = omega arith; near = omega arith; small = omega arith }

-- Such a line, at a diameter d above `from`
module _ {start rise : ℤ} {from top : ℕ} (line : Line start rise from top) (d : ℕ) (after : from < d) (d_small : d ≤ greatest_d) where
  line_risen : pos units_to_cm *ℤ start +ℤ rise *ℤ pos d ≡ pos (nat_abs rise * d - units_to_cm * nat_abs start)
  line_risen =
      let falls : Diff start 0 (nat_abs start) = subst (λ z. Diff z 0 (nat_abs start)) (sym line.falls) (neg (parts (pos (nat_abs start)))) in
      let rises : Diff rise (nat_abs rise) 0 = subst (λ z. Diff z (nat_abs rise) 0) (sym line.rises) (parts (pos (nat_abs rise))) in
      let further : nat_abs rise * suc from ≤ nat_abs rise * d = mul-le-mul_left (nat_abs rise) after in
      same
      (add (mul (parts (pos units_to_cm)) falls) (mul rises (parts (pos d))))
      (parts (pos (nat_abs rise * d - units_to_cm * nat_abs start)))
      (omega (arith, line.above))

  pub line_rising : Rising start rise d
  line_rising = record { risen = _; is = line_risen; start_small = line.start_small; rise_small = line.rise_small; d_small = d_small }

  straight_bounded : Bounded (straight start rise d) 2 (top + 1)
  straight_bounded = subst (λ z. Bounded (record { low = z div units_to_cm; high = z div units_to_cm +ℤ pos 1 }) 2 (top + 1)) (sym line_risen)
      (let further : nat_abs rise * d ≤ nat_abs rise * greatest_d = mul-le-mul_left (nat_abs rise) d_small in
      record { low_whole = refl; high_whole = refl; ordered = omega arith; near = omega arith; small = omega (arith, line.below) })

-- A row of a table of groups: a curve's coefficient and the straight line that follows the curve
pub record Group (k start rise : ℤ) (most from top : ℕ) : Type 0 where
  pub coefficient : Coefficient k most
  pub line : Line start rise from top

-- so it is sound, where the table's coefficients are small
pub sound_row : {row : List ℤ} {most from top : ℕ} → Group (get_or row 0 (pos 0)) (get_or row 1 (pos 0)) (get_or row 2 (pos 0)) most from top
    → most < 2 ^ 20 → SoundRow from row
sound_row g few =
    record {
      is_whole = g.coefficient.is_whole;
      small = lt_of_le_of_lt g.coefficient.small few;
      rising = λ d after d_small. line_rising g.line d after d_small;
    }

-- For a row of literals each test is computed
pub group : {k start rise most from top : ℕ} → T (leb k most) → T (leb (units_to_cm * suc start) (rise * suc from))
    → T (leb (rise * greatest_d) (units_to_cm * suc start + units_to_cm * top)) → T (leb (suc start) (10 ^ 9)) → T (leb rise (10 ^ 9))
    → Group (pos k) (negsuc start) (pos rise) most from top
group k_small above below start_small rise_small =
    record {
      coefficient = record { is_whole = refl; small = lit≤ k_small };
      line =
          record {
            falls = refl;
            rises = refl;
            above = lit≤ above;
            below = lit≤ below;
            start_small = lit≤ start_small;
            rise_small = lit≤ rise_small;
          };
    }

-- A part that is a curve up to `from` and a straight line above it. The curve's power is at most q, so that the curve stays below the line's top
pub part_bounded : {k start rise : ℤ} {most from top : ℕ} → Group k start rise most from top → (d p q m : ℕ) → d ≤ greatest_d → (d ≤ from → p ≤ q)
    → 0 < m → most ≤ m → most * (q + 1) < (top + 1) * m → Bounded (cond (leb d from) (curve k p m) (straight start rise d)) 2 (top + 1)
part_bounded {k} {start} {rise} {most} {from} {top} g d p q m d_small p_small m_some most_m fits =
    either_side (λ t. Bounded (cond t (curve k p m) (straight start rise d)) 2 (top + 1)) d from
    (λ on_curve. curve_bounded k p m most q (top + 1) g.coefficient m_some most_m (p_small on_curve) fits)
    (λ on_line. straight_bounded g.line d on_line d_small)
