-- "operands of fixed width, high byte first"
use Rattle.std.specs.Prelude.{ℕ, zero, suc, ◌+◌, ◌-◌, ◌*◌, ◌/◌, ◌%◌, ◌^◌, ◌≤◌, ◌<◌, ◌≡◌, cond, List, [], ◌∷◌, ◌++◌, length, take, drop, get_or, leb, ltb, ℤ, pos, negsuc}
use Rattle.std.proofs.Common.{arith}

-- the byte at a place
abbrev pub byte : List ℕ → ℕ → ℕ
byte s i = get_or s i 0

-- bytes, each of them
abbrev pub AllBytes : List ℕ → Type 0
AllBytes s = (i : ℕ) → byte s i < 256

-- the number in the k bytes from i on
abbrev pub number_at : ℕ → List ℕ → ℕ → ℕ
number_at zero s i = 0
number_at (suc k) s i = byte s i * 256 ^ k + number_at k s (i + 1)

-- the k bytes of a number
abbrev pub bytes : ℕ → ℕ → List ℕ
bytes zero n = []
bytes (suc k) n = n / 256 ^ k % 256 ∷ bytes k n

-- a list with new bytes from a place on: those before the place, the new ones, and those after them
unfoldable pub stored_at : List ℕ → ℕ → List ℕ → List ℕ
stored_at b at new = take at b ++ new ++ drop (at + length new) b

-- stored where there is room for all of them, else the list is as it was; and the place after them, else the same place
unfoldable pub store : List ℕ → ℕ → List ℕ → List ℕ
store b at new = cond (leb (at + length new) (length b)) (stored_at b at new) b

unfoldable pub after_store : List ℕ → ℕ → List ℕ → ℕ
after_store b at new = cond (leb (at + length new) (length b)) (at + length new) at

-- "4 each, signed": two's complement. −(n + 1) is written as 2^32 − (n + 1). Neither minus is cut off (`minus_is_whole`): four bytes hold at most
-- 2^32 − 1, and n is below 2^31
abbrev pub signed : ℕ → ℤ
signed n = cond (ltb n 2147483648) (pos n) (negsuc (4294967295 - n))

abbrev pub unsigned : ℤ → ℕ
unsigned (pos n) = n
unsigned (negsuc n) = 4294967295 - n

pub minus_is_whole : (n : ℕ) → n ≤ 4294967295 → 4294967295 - n + n ≡ 4294967295
minus_is_whole n h = omega arith
