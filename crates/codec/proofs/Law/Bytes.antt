-- Laws of numbers in bytes: a number's bytes are read back as that number, and bytes are those of the number that they hold. Both go byte by byte
-- over the width: the first byte is the quotient by 256^k, and the other k bytes hold the rest.
use Rattle.std.specs.Prelude.{ℕ, zero, suc, ◌+◌, ◌-◌, ◌*◌, ◌/◌, ◌%◌, ◌^◌, ◌≤◌, ◌<◌, ◌≡◌, refl, Bool, true, false, List, [], ◌∷◌, ◌++◌, length, take, drop, ltb, ℤ, pos, negsuc}
use Rattle.std.proofs.Math.Nat.{one-le-pow, div-eq_of_lt, div-div-eq-div-mul, mul-add-div_right, mul-add-mod_self_right}
use Rattle.std.proofs.Common.{mod-lt, mod-eq_of_lt, div-one, div-add-mod', mul-le-mul_right, add-mul, pow-suc, add-zero, le_of_suc-le-suc, add-one, arith, ◌∙◌, sym, ap, subst, append_assoc, append-nil, length-append, take-append-drop, drop-cons, length-take-le, lt-ltb, le-ltb, ltb-true, ltb-false}
use Rattle.std.proofs.Math.ListN.{get_or-eq_default}
use Rattle.std.proofs.Math.Seq.{append_snoc, get_or-append_seam}
use Rattle.std.specs.Int.Signed.{mag}
use Rattle.codec.specs.Bytes.{byte, AllBytes, number_at, bytes, signed, unsigned}
use Rattle.codec.specs.Command.{FitsFour}

-- ---- bytes in a row

-- bytes, one after the other
pub data EachByte : List ℕ → Type 0 where
  no_byte : EachByte []
  one_byte : {x : ℕ} {l : List ℕ} → x < 256 → EachByte l → EachByte (x ∷ l)

pub each_append : {l m : List ℕ} → EachByte l → EachByte m → EachByte (l ++ m)
each_append no_byte k = k
each_append (one_byte e h) k = one_byte e (each_append h k)

pub each_all : {l : List ℕ} → EachByte l → AllBytes l
each_all no_byte i = omega arith
each_all (one_byte e h) zero = e
each_all (one_byte e h) (suc i) = each_all h i

-- The list l stands in s at i: its bytes are those of s from i on
pub data Stands : List ℕ → List ℕ → ℕ → Type 0 where
  nothing : {s : List ℕ} {i : ℕ} → Stands [] s i
  before : {x : ℕ} {l s : List ℕ} {i : ℕ} → byte s i ≡ x → Stands l s (i + 1) → Stands (x ∷ l) s i

-- at a place that is written in another way
pub stands_at : {l s : List ℕ} {i j : ℕ} → Stands l s i → i ≡ j → Stands l s j
stands_at {l} {s} h e = subst (λ (k : ℕ). Stands l s k) e h

-- two lists stand one after the other
pub stands_first : (l m : List ℕ) {s : List ℕ} {i : ℕ} → Stands (l ++ m) s i → Stands l s i
stands_first [] m h = nothing
stands_first (x ∷ l) m (before e h) = before e (stands_first l m h)

pub stands_second : (l m : List ℕ) {s : List ℕ} {i : ℕ} → Stands (l ++ m) s i → Stands m s (i + length l)
stands_second [] m h = rw add-zero h
stands_second (x ∷ l) m (before e h) = stands_at (stands_second l m h) (omega arith)

pub stands_append : {l m s : List ℕ} {i : ℕ} → Stands l s i → Stands m s (i + length l) → Stands (l ++ m) s i
stands_append nothing k = rw add-zero at k
stands_append (before e h) k = before e (stands_append h (stands_at k (omega arith)))

-- a list that was put between two others stands there
pub stands_between : (p l q : List ℕ) → Stands l (p ++ l ++ q) (length p)
stands_between p [] q = nothing
stands_between p (x ∷ l) q =
    let first : byte (p ++ x ∷ l ++ q) (length p) ≡ x = rw append_assoc (get_or-append_seam p x (l ++ q) 0) in
    before first (simp (append_snoc, length-append) at (stands_between (p ++ (x ∷ [])) l q))

pub stands_itself : (l : List ℕ) → Stands l l 0
stands_itself l = rw append-nil at (stands_between [] l [])

-- what stands at a place is what is taken from there
pub stands_taken : (l s : List ℕ) (i : ℕ) → Stands l s i → i + length l ≤ length s → take (length l) (drop i s) ≡ l
stands_taken l s i nothing fits = refl
stands_taken l s i (before {x} {l = rest} e h) fits =
    rw (drop-cons s i 0 (omega arith), e, ← add-one, stands_taken rest s (i + 1) h (omega arith))

-- and what is taken from a place on stands there
pub taken_stands : (l s : List ℕ) (i : ℕ) → i ≤ length s → take (length l) (drop i s) ≡ l → Stands l s i
taken_stands l s i inside taken =
    let rest = drop (length l) (drop i s) in
    let parts : take i s ++ l ++ rest ≡ s =
    append_assoc (take i s) l rest ∙ ap (λ (m : List ℕ). take i s ++ (m ++ rest)) (sym taken) ∙ rw (take-append-drop, take-append-drop) in
    subst (λ (t : List ℕ). Stands l t i) parts (stands_at (stands_between (take i s) l rest) (length-take-le i s inside))

-- ---- the number in k bytes, and the k bytes of a number

one_at_least : (k : ℕ) → 0 < 256 ^ k
one_at_least k = one-le-pow k 256 (omega arith)

-- past the end there is nothing but 0
pub byte_past_end : (s : List ℕ) (i : ℕ) → length s ≤ i → 0 ≡ byte s i
byte_past_end s i past = sym (get_or-eq_default s 0 past)

pub number_past_end : (k : ℕ) (s : List ℕ) (i : ℕ) → length s ≤ i → 0 ≡ number_at k s i
number_past_end zero s i past = refl
number_past_end (suc k) s i past = rw (← byte_past_end s i past, ← number_past_end k s (i + 1) (omega arith)) (omega arith)

-- the one byte of a number below 256 is the number
pub byte_alone : (n : ℕ) → n < 256 → n / 256 ^ 0 % 256 ≡ n
byte_alone n fits = rw (div-one, mod-eq_of_lt fits)

-- the last byte of a number
pub last_byte : (n : ℕ) → n / 256 ^ 0 % 256 ≡ n % 256
last_byte n = ap (◌% 256) (div-one n)

pub length_bytes : (k n : ℕ) → length (bytes k n) ≡ k
length_bytes zero n = refl
length_bytes (suc k) n = ap suc (length_bytes k n)

pub bytes_below : (k n : ℕ) → EachByte (bytes k n)
bytes_below zero n = no_byte
bytes_below (suc k) n = one_byte (mod-lt (n / 256 ^ k) (omega arith)) (bytes_below k n)

pub number_below : (k : ℕ) (s : List ℕ) (i : ℕ) → AllBytes s → number_at k s i < 256 ^ k
number_below zero s i all = omega arith
number_below (suc k) s i all =
    let first : byte s i * 256 ^ k ≤ 255 * 256 ^ k = mul-le-mul_right (256 ^ k) (le_of_suc-le-suc (all i)) in
    let rest : number_at k s (i + 1) < 256 ^ k = number_below k s (i + 1) all in
    omega arith

-- the k bytes of n hold what n leaves when it is divided by 256^k
quotient_and_number : (k n : ℕ) {s : List ℕ} {i : ℕ} → Stands (bytes k n) s i → n / 256 ^ k * 256 ^ k + number_at k s i ≡ n
quotient_and_number zero n h = rw div-one (omega arith)
quotient_and_number (suc k) n {s} {i} (before e h) =
    let q = n / 256 ^ k in
    let rest : q * 256 ^ k + number_at k s (i + 1) ≡ n = quotient_and_number k n h in
    let parts : q / 256 * 256 * 256 ^ k + q % 256 * 256 ^ k ≡ q * 256 ^ k =
    sym (add-mul (q / 256 * 256) (q % 256) (256 ^ k)) ∙ ap (◌* 256 ^ k) (div-add-mod' q 256) in
    let twice : q / 256 ≡ n / 256 ^ suc k = div-div-eq-div-mul n (256 ^ k) 256 ∙ ap (n /◌) (sym (pow-suc 256 k)) in
    rw (e, ← twice, pow-suc) (omega arith)

-- a number that fits k bytes is read back from its bytes
pub number_of_bytes : (k n : ℕ) {s : List ℕ} {i : ℕ} → n < 256 ^ k → Stands (bytes k n) s i → number_at k s i ≡ n
number_of_bytes k n {s} {i} fits h = omega (arith, rw div-eq_of_lt at (quotient_and_number k n h))

-- the last k bytes of a number do not depend on those before them
pub bytes_of_rest : (k b n : ℕ) → bytes k (b * 256 ^ k + n) ≡ bytes k n
bytes_of_rest zero b n = refl
bytes_of_rest (suc k) b n =
    let wider : b * 256 ^ suc k + n ≡ b * 256 * 256 ^ k + n = rw pow-suc (omega arith) in
    rw (wider, bytes_of_rest k (b * 256) n, mul-add-div_right (one_at_least k) (b * 256) n, mul-add-mod_self_right b 256 (n / 256 ^ k))

-- k bytes are those of the number in them
pub bytes_of_number : (k : ℕ) (s : List ℕ) (i : ℕ) → AllBytes s → Stands (bytes k (number_at k s i)) s i
bytes_of_number zero s i all = nothing
bytes_of_number (suc k) s i all =
    let b = byte s i in
    let n = number_at k s (i + 1) in
    let no_more : n / 256 ^ k ≡ 0 = div-eq_of_lt (number_below k s (i + 1) all) in
    let first : b ≡ (b * 256 ^ k + n) / 256 ^ k % 256 = rw (mul-add-div_right (one_at_least k) b n, no_more, add-zero, mod-eq_of_lt (all i)) in
    let rest : Stands (bytes k (b * 256 ^ k + n)) s (i + 1) = rw bytes_of_rest (bytes_of_number k s (i + 1) all) in
    before first rest

-- ---- "4 each, signed"

-- every signed number of 32 bits fits
pub mag_fits : (z : ℤ) → mag z < 2 ^ 31 → FitsFour z
mag_fits (pos n) h = h
mag_fits (negsuc n) h = h

pub unsigned_fits : (z : ℤ) → FitsFour z → unsigned z < 4294967296
unsigned_fits (pos n) h = omega arith
unsigned_fits (negsuc n) h = omega arith

pub signed_unsigned : (z : ℤ) → FitsFour z → signed (unsigned z) ≡ z
signed_unsigned (pos n) h = rw lt-ltb
signed_unsigned (negsuc n) h = rw (le-ltb (4294967295 - n) 2147483648 (omega arith)) (ap negsuc (omega arith))

by_sign : (n : ℕ) (low : Bool) → ltb n 2147483648 ≡ low → n < 4294967296 → FitsFour (signed n) × (unsigned (signed n) ≡ n)
by_sign n true e h = rw e (ltb-true n 2147483648 e, refl)
by_sign n false e h = let high = ltb-false n 2147483648 e in rw e (omega arith)

pub signed_fits : (n : ℕ) → n < 4294967296 → FitsFour (signed n)
signed_fits n h = (by_sign n (ltb n 2147483648) refl h).0

pub unsigned_signed : (n : ℕ) → n < 4294967296 → unsigned (signed n) ≡ n
unsigned_signed n h = (by_sign n (ltb n 2147483648) refl h).1
