-- Bytes stored from a place on: they stand there, every other byte stays, and what is stored piece by piece is stored as a whole.
use Rattle.std.specs.Prelude.{ℕ, suc, ◌+◌, ◌-◌, ◌≤◌, ◌<◌, ◌≡◌, refl, Bool, true, false, cond, ◌⊎◌, take, set, leb}
use Rattle.std.proofs.Common.{add_assoc, add-one, arith, ◌∙◌, ap₂, inl, inr, length-drop, take-append-drop, length-take-le, take-add, take_at, drop_at, take-suc-set, le-leb, leb-true}
use Rattle.std.proofs.Math.Path.{sym, ap}
use mathlib.Core.List.{List, [], ◌∷◌, ◌++◌, append_assoc}
use Rattle.std.proofs.Math.ListN.{length, drop, length-append, get_or-append}
use Rattle.std.proofs.Math.Seq.{get_or-take, get_or-drop, get_or-append-add, drop-drop, take-set-lt}
use Rattle.std.proofs.lemmas.List.{set-append_left}
use Rattle.std.proofs.lemmas.Bool.{lt-leb}
use Rattle.codec.specs.Bytes.{byte, stored_at, store, after_store}
use Rattle.codec.proofs.Law.Bytes.{Stands, stands_at, stands_between}

-- ---- stored at a place

module _ (b : List ℕ) (at : ℕ) (l : List ℕ) (inside : at ≤ length b) where
  length_before : length (take at b) ≡ at
  length_before = length-take-le at b inside

  length_front : length (take at b ++ l) ≡ at + length l
  length_front = simp (length-append, length_before)

  -- they stand there
  pub stands_stored : Stands l (stored_at b at l) at
  unfolding stored_at
  stands_stored = stands_at (stands_between (take at b) l (drop (at + length l) b)) length_before

  -- every other byte stays
  pub stored_keeps : (i : ℕ) → (i < at) ⊎ (at + length l ≤ i) → byte (stored_at b at l) i ≡ byte b i
  unfolding stored_at
  stored_keeps i (inl below) =
      rw append_assoc (get_or-append (take at b) (l ++ drop (at + length l) b) 0 i (rw length_before below) ∙ get_or-take at b i 0 below)
  stored_keeps i (inr above) =
      let n = i - (at + length l) in
      let there : i ≡ length (take at b ++ l) + n = omega (arith, length_front) in
      ap (byte (take at b ++ l ++ drop (at + length l) b)) there ∙ get_or-append-add (take at b ++ l) (drop (at + length l) b) n 0
      ∙ get_or-drop (at + length l) b n 0 ∙ ap (byte b) (omega arith)

  -- more that is stored right after them is stored as if it came with them
  pub stored_then : (m : List ℕ) → stored_at (stored_at b at l) (at + length l) m ≡ stored_at b at (l ++ m)
  unfolding stored_at
  stored_then m =
      let rest = drop (at + length l) b in
      let kept : drop (at + length l + length m) (take at b ++ l ++ rest) ≡ drop (at + length l + length m) b =
      sym (drop-drop (length m) (at + length l) (take at b ++ l ++ rest)) ∙ ap (drop (length m)) (drop_at (take at b ++ l) rest (at + length l) length_front)
      ∙ drop-drop (length m) (at + length l) b in
      rw (take_at (take at b ++ l) rest (at + length l) length_front, kept, append_assoc (take at b) l m, length-append, add_assoc)

-- where there is room for them, nothing gets longer
pub length_stored : (b : List ℕ) (at : ℕ) (l : List ℕ) → at + length l ≤ length b → length (stored_at b at l) ≡ length b
unfolding stored_at
length_stored b at l fits = simp (length-append, length-drop, length_before b at l (omega arith)) (omega arith)

-- a list that is stored where it stands already
pub stored_again : (s : List ℕ) (at : ℕ) (l : List ℕ) → take (length l) (drop at s) ≡ l → stored_at s at l ≡ s
unfolding stored_at
stored_again s at l taken =
    ap (λ (m : List ℕ). take at s ++ m ++ drop (at + length l) s) (sym taken)
    ∙ rw (← take-add at (length l) s) (take-append-drop (at + length l) s)

pub stored_nothing : (b : List ℕ) (at : ℕ) → b ≡ stored_at b at []
stored_nothing b at = sym (stored_again b at [] refl)

-- one byte more in front of those that are stored
pub stored_before : (b : List ℕ) (at x : ℕ) (l : List ℕ) → at < length b → set (stored_at b (at + 1) l) at x ≡ stored_at b at (x ∷ l)
unfolding stored_at
stored_before b at x l inside =
    let front = take (at + 1) b in
    let rest = drop (at + 1 + length l) b in
    let long : length front ≡ at + 1 = length-take-le (at + 1) b (omega arith) in
    let end : at + 1 + length l ≡ at + suc (length l) = omega arith in
    let set_front : set front at x ≡ take at b ++ (x ∷ []) = rw add-one (sym (take-set-lt (suc at) b at x (omega arith)) ∙ take-suc-set b at x inside) in
    set-append_left (front ++ l) rest at x (omega (arith, length-append front l))
    ∙ ap (λ m. m ++ rest) (set-append_left front l at x (omega arith) ∙ ap (λ m. m ++ l) set_front ∙ append_assoc (take at b) (x ∷ []) l)
    ∙ ap (λ n. take at b ++ (x ∷ l) ++ drop n b) end

-- ---- stored where there is room

pub store_fits : (b : List ℕ) (at : ℕ) (l : List ℕ) → at + length l ≤ length b → store b at l ≡ stored_at b at l
unfolding store
store_fits b at l fits = rw le-leb

pub store_full : (b : List ℕ) (at : ℕ) (l : List ℕ) → length b < at + length l → b ≡ store b at l
unfolding store
store_full b at l short = rw lt-leb

pub store_cases : (P : List ℕ → Type 0) (b : List ℕ) (at : ℕ) (l : List ℕ) → (at + length l ≤ length b → P (stored_at b at l)) → P b → P (store b at l)
unfolding store
store_cases P b at l stored left = by_test (leb (at + length l) (length b)) refl
  where
    by_test : (test : Bool) → leb (at + length l) (length b) ≡ test → P (cond test (stored_at b at l) b)
    by_test true t = stored (leb-true (at + length l) (length b) t)
    by_test false t = left

pub store_keeps_length : (b : List ℕ) (at : ℕ) (l : List ℕ) → length (store b at l) ≡ length b
store_keeps_length b at l = store_cases (λ m. length m ≡ length b) b at l (length_stored b at l) refl

-- ---- piece by piece

-- c is the list b with l stored from a place on, and p is the place after it
abbrev pub Stored : List ℕ → ℕ → List ℕ → List ℕ → ℕ → Type 0
Stored b at l c p = (c ≡ stored_at b at l) × (p ≡ at + length l)

-- the list d and the place q that storing m in c at p leaves
abbrev pub Stores : List ℕ → ℕ → List ℕ → List ℕ → ℕ → Type 0
Stores c p m d q = (d ≡ store c p m) × (q ≡ after_store c p m)

pub fits_stored : {d : List ℕ} {q : ℕ} (c : List ℕ) (p : ℕ) (m : List ℕ) → p + length m ≤ length c → Stores c p m d q → Stored c p m d q
unfolding after_store
fits_stored c p m fits s = (s.0 ∙ store_fits c p m fits, s.1 ∙ rw le-leb)

pub full_stores : (c : List ℕ) (p : ℕ) (m : List ℕ) → length c < p + length m → Stores c p m c p
unfolding after_store
full_stores c p m short = (store_full c p m short, rw lt-leb)

pub stored_stores : {d : List ℕ} {q : ℕ} (c : List ℕ) (p : ℕ) (m : List ℕ) → p + length m ≤ length c → Stored c p m d q → Stores c p m d q
unfolding after_store
stored_stores c p m fits s = (s.0 ∙ sym (store_fits c p m fits), s.1 ∙ rw le-leb)

pub stores_keep : {d : List ℕ} {q : ℕ} (c : List ℕ) (p : ℕ) (m : List ℕ) → Stores c p m d q → length d ≡ length c
stores_keep c p m s = ap length s.0 ∙ store_keeps_length c p m

-- m right after l
pub next_stored : {c d : List ℕ} {p q : ℕ} (b : List ℕ) (at : ℕ) (l m : List ℕ) → at + length l + length m ≤ length b → Stored b at l c p → Stores c p m d q →
    Stored b at (l ++ m) d q
next_stored {c} {p} b at l m fits first next =
    let as_long : length c ≡ length b = ap length first.0 ∙ length_stored b at l (omega arith) in
    let there = fits_stored c p m (omega (arith, first.1)) next in (
      there.0 ∙ ap₂ (λ c p. stored_at c p m) first.0 first.1 ∙ stored_then b at l (omega arith) m,
      omega (arith, there.1, first.1, length-append l m),
    )
