-- The greatest number that passes a test, and whole roots.
use Rattle.std.specs.Prelude.{ℕ, zero, suc, ◌^◌, Bool, cond, leb}

-- the greatest number up to the bound that passes the test, and 0 where none does
unfoldable pub greatest : (ℕ → Bool) → ℕ → ℕ
greatest passes zero = zero
greatest passes (suc n) = cond (passes (suc n)) (suc n) (greatest passes n)

-- the greatest r with r ^ k ≤ x, for k from 1: such an r is at most x, so the bound leaves none out
unfoldable pub whole_root : ℕ → ℕ → ℕ
whole_root k x = greatest (λ r. leb (r ^ k) x) x
