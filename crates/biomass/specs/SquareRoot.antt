-- Document 02, Q-3: the square root, with its square.
use Rattle.std.specs.Prelude.{ℕ, ◌+◌, ◌≤◌, ◌<◌, ◌≡◌}
use Rattle.powers.specs.Greatest.{whole_root}
use Rattle.biomass.specs.Whole.{square}
use Rattle.biomass.specs.declared.square_root.SquareRoot.{SquareRoot}

-- "the greatest root whose square is not above it, and that square". It is said of any number; "for every number below 2^64" is what the routine takes
unfoldable pub square_root : ℕ → SquareRoot
square_root x = record { root = whole_root 2 x; square = square (whole_root 2 x) }

-- The same by two inequalities: x is from the square on, and below the next one. (Law.SquareRoot: of each x they hold of `square_root x`, and of nothing else)
pub record IsSquareRoot (x : ℕ) (r : SquareRoot) : Type 0 where
  pub squared : r.square ≡ square r.root
  pub not_above : r.square ≤ x
  pub below : x < square (r.root + 1)
