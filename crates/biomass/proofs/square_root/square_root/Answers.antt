-- `biomass::square_root::square_root` meets its contract: the search begins with all the bits that a root of x can have (`highest`, `first`), each turn
-- settles the first that is left (`halve`), and with none left `cross` is the root.
use Rattle.std.proofs.Common.{◌≡◌, ℕ, zero, suc, ◌+◌, ◌*◌, ◌/◌, ◌^◌, ◌<◌, ◌≤◌, arith, pow-suc, lit<}
use Rattle.std.specs.Int.Bits.{bit_or}
use Rattle.std.specs.Int.Count.{count_leading_zeros}
use Rattle.std.proofs.lemmas.Nat.{leading_top, or_lt, le_or_l, le_or_r, pow-add, pow_pos, shl-shr}
use Rattle.std.proofs.Math.Pow.{pow_mono}
use Rattle.biomass.proofs.Law.SquareRoot.{root_and_square_only}
use Rattle.biomass.proofs.square_root.square_root.Invariants.{Search}
use Rattle.biomass.proofs.square_root.square_root.Goals as goal
use Rattle.biomass.proofs.square_root.square_root.Goals.{then-trial-x, else-trial-x}

-- the highest bit that a root of x can have is 2^h: before it stand half as many zeros as before that of x, or of 1 for 0
highest : (x : ℕ) → x < 2 ^ 64 → (h : ℕ) × (h + h + count_leading_zeros 64 (bit_or x 1) / 2 * 2 ≡ 62) × (x < 4 * (2 ^ h * 2 ^ h))
highest x fits =
    let top = leading_top 64 (bit_or x 1) (le_or_r x 1) (or_lt 64 x 1 fits (lit< tt)) in
    let h = top.0 / 2 in
    let up : 2 ^ suc top.0 ≤ 2 ^ (h + h + 2) = pow_mono {i = suc top.0} (omega arith) in
    (h, omega arith, omega (arith, le_or_l x 1, pow-add))

-- so h + 1 bits are to settle, and `area` is the square of the first of them
first : (x z h : ℕ) → h + h + z * 2 ≡ 62 → x < 4 * (2 ^ h * 2 ^ h) → Search x 0 0 (2 ^ 62 / 2 ^ (z * 2))
first x z h is below =
    let whole : 2 ^ 62 ≡ 2 ^ (h + h) * 2 ^ (z * 2) = rw is at (pow-add 2 (h + h) (z * 2)) in
    let begin : 2 ^ 62 / 2 ^ (z * 2) ≡ 2 ^ h * 2 ^ h = rw (whole, shl-shr, pow-add) in
    let most : 2 ^ h ≤ 2 ^ 31 = pow_mono {j = 31} (omega arith) in
    record { k = suc h; root = 0; between = rw (pow-suc 2 h) (grind arith) }

-- where `area` is not 0, a bit is left
halve : (k : ℕ) → 0 < 2 ^ k * 2 ^ k / 4 → (j : ℕ) × (2 ^ k ≡ 2 * 2 ^ j)
halve zero left = absurd (omega arith)
halve (suc j) left = (j, omega (arith, pow-suc 2 j))

pub overflow_shr-area : goal.overflow_shr-area
overflow_shr-area c = let h = highest c.args.x (omega arith) in omega arith

pub loop-area-init : goal.loop-area-init
loop-area-init c = let h = highest c.args.x (omega arith) in first _ _ h.0 h.1 h.2

-- the bit is taken into the root, or it is not. Each part of `Between` stands by itself, so that one that an edit makes false is told with numbers
pub loop-area-preserved : goal.loop-area-preserved
loop-area-preserved c =
    let s = c.loop-area.invariant in
    let bit = halve s.k (omega arith) in
    let b = rw bit.1 at s.between in
    elim c.if-trial-x.branch [
      | then-trial-x w ↦ record {
        k = bit.0;
        root = s.root + 2 ^ bit.0;
        between = record {
          square_is = omega arith;
          cross_is = omega arith;
          area_is = omega arith;
          not_above = omega arith;
          below = omega arith;
          fits = omega arith;
        };
      }
      | else-trial-x w ↦ record {
        k = bit.0;
        root = s.root;
        between = record {
          square_is = omega arith;
          cross_is = omega arith;
          area_is = omega arith;
          not_above = omega arith;
          below = omega arith;
          fits = omega arith;
        };
      }
    ]

pub returns : goal.returns
returns c =
    let s = c.loop-area.invariant in
    let none : 2 ^ s.k ≡ 1 = grind (arith, pow_pos s.k) in
    let b = rw none at s.between in
    root_and_square_only _ _ (grind arith)
