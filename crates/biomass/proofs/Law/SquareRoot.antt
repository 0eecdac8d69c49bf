-- Laws of the square root: x is from its square on and below the next one, which is so of no other root and square; and no greater root has its square so low.
use Rattle.std.specs.Prelude.{ℕ, ◌≤◌, ◌≡◌, refl}
use Rattle.std.proofs.Common.{sym, lit≤, lit<}
use Rattle.powers.specs.Greatest.{whole_root}
use Rattle.powers.proofs.Law.Greatest.{pow_two, square_root_is, le_whole_root, whole_root_not_above, whole_root_below}
use Rattle.biomass.specs.Whole.{square}
use Rattle.biomass.specs.SquareRoot.{square_root, IsSquareRoot}
use Rattle.biomass.specs.declared.square_root.SquareRoot.{SquareRoot}

-- the two inequalities
pub root_and_square : (x : ℕ) → IsSquareRoot x (square_root x)
unfolding square_root
root_and_square x =
    record {
      squared = refl;
      not_above = rw pow_two at (whole_root_not_above 2 x (lit< tt));
      below = rw pow_two at (whole_root_below 2 x (lit< tt));
    }

-- nothing else has both
pub root_and_square_only : (x : ℕ) (r : SquareRoot) → IsSquareRoot x r → r ≡ square_root x
unfolding square_root
root_and_square_only x r is =
    let found : whole_root 2 x ≡ r.root = square_root_is x r.root (rw is.squared at is.not_above) is.below in
    rw (found, ← is.squared)

-- "the greatest root whose square is not above it"
pub greatest_root_lem : (x r : ℕ) → square r ≤ x → r ≤ (square_root x).root
unfolding square_root
greatest_root_lem x r le = le_whole_root 2 x r (lit< tt) (rw pow_two le)

-- at the greatest number of 64 bits
pub of_greatest : square_root 0xffff_ffff_ffff_ffff ≡ record { root = 0xffff_ffff; square = 0xffff_fffe_0000_0001 }
of_greatest = sym (root_and_square_only _ _ (record { squared = refl; not_above = lit≤ tt; below = lit< tt }))
