-- "A command written and read is the same command, and the bytes of a command read and written again are the same bytes" (demand 2), at every place
-- and for all bytes. Reading and writing meet in one fact: the command's operands fit their bytes, and its encoding stands at the place.
use Rattle.std.specs.Prelude.{ℕ, ◌+◌, ◌≤◌, ◌<◌, ◌≡◌, Bool, true, false, cond, ◌⊎◌, List, ◌++◌, take, drop, leb, ltb, eqb, ℤ}
use Rattle.std.proofs.Common.{add_assoc, arith, ◌∙◌, sym, ap, subst}
use Rattle.std.proofs.Math.Path.{refl}
use Rattle.std.proofs.Math.ListN.{length}
use borrow.Author.Tests.{le-leb, lt-ltb, le-ltb, leb-true, ltb-true, eqb-true}
use Rattle.biomass.specs.Report.{Report, refused, gives}
use Rattle.biomass.proofs.Law.Gives.{never, figure_is, test_passed}
use Rattle.codec.specs.Bytes.{byte, stored_at, AllBytes, number_at, bytes, signed, unsigned}
use Rattle.codec.specs.Command.{encode, Fits, FitsFour}
use Rattle.codec.specs.Reading.{with_operands, species_from, factor_from, open_from, measured_from, height_from, small_from, command_from, read}
use Rattle.codec.specs.Writing.{fits_at, write, buffer_after}
use Rattle.codec.specs.RoundTrip.{ReadsBack, WritesBack}
use Rattle.codec.proofs.Law.Storing.{stands_stored, stored_keeps, length_stored, stored_again, store_fits, store_cases, store_keeps_length}
use Rattle.codec.proofs.Law.Bytes.{EachByte, no_byte, one_byte, each_append, each_all, Stands, nothing, before, stands_at, stands_first, stands_second, stands_append, stands_taken, bytes_below, number_below, number_of_bytes, bytes_of_number, unsigned_fits, signed_unsigned, signed_fits, unsigned_signed}
use Rattle.codec.specs.declared.command.Command.{Command}
use Rattle.codec.specs.declared.command.Command.TheVariants.{Species, Factor, Open, Measured, Height, Close, End, Small}

-- ---- the bytes of a command are bytes

pub each_encoded : (c : Command) → Fits c → EachByte (encode c)
each_encoded (Species id s) f =
    one_byte {x = 1} (omega arith) (one_byte f.0 (one_byte f.1.crown (one_byte f.1.root (one_byte f.1.gravity
    (each_append (each_append (each_append (bytes_below 4 (unsigned s.constants.c1)) (bytes_below 4 (unsigned s.constants.c2))) (bytes_below 4 (unsigned s.constants.c3)))
    (bytes_below 4 (unsigned s.constants.c4)))))))
each_encoded (Factor cm factor) f = one_byte {x = 2} (omega arith) (one_byte f.0 (one_byte f.1 no_byte))
each_encoded (Open stratum species p q) f =
    one_byte {x = 3} (omega arith) (one_byte f.0 (one_byte f.1 (each_append (bytes_below 4 p) (bytes_below 4 q))))
each_encoded (Measured class count) f = one_byte {x = 4} (omega arith) (one_byte f.0 (bytes_below 2 count))
each_encoded (Height cm tenths) f = one_byte {x = 5} (omega arith) (one_byte f.0 (bytes_below 2 tenths))
each_encoded Close f = one_byte {x = 6} (omega arith) no_byte
each_encoded End f = one_byte {x = 7} (omega arith) no_byte
each_encoded (Small carbon count) f = one_byte {x = 8} (omega arith) (each_append (bytes_below 4 carbon) (bytes_below 4 count))

pub encode_bytes : (c : Command) → Fits c → AllBytes (encode c)
encode_bytes c f = each_all (each_encoded c f)

-- ---- an encoded command is read

-- at the end and past it none is
pub read_at_end : (s : List ℕ) (at : ℕ) → length s ≤ at → read s at ≡ refused 1
unfolding read
read_at_end s at none_left = rw le-ltb

-- the command's byte, and enough bytes for its operands
pub read_by : (s : List ℕ) (at b : ℕ) → at < length s → byte s at ≡ b → read s at ≡ command_from b s (at + 1)
unfolding read
read_by s at b inside e = rw (lt-ltb at (length s) inside, e)

pub with_operands_gives : (s : List ℕ) (from width : ℕ) (c : Command) → from + width ≤ length s → with_operands s from width c ≡ gives (c, from + width)
with_operands_gives s from width c enough = rw le-leb

signed_of_bytes : (z : ℤ) (s : List ℕ) (i : ℕ) → FitsFour z → Stands (bytes 4 (unsigned z)) s i → signed (number_at 4 s i) ≡ z
signed_of_bytes z s i f h = rw (number_of_bytes 4 (unsigned z) (unsigned_fits z f) h) (signed_unsigned z f)

pub read_encoded : (s : List ℕ) (at : ℕ) (c : Command) → Fits c → Stands (encode c) s at → at + length (encode c) ≤ length s
    → read s at ≡ gives (c, at + length (encode c))
unfolding command_from species_from factor_from open_from measured_from height_from small_from
read_encoded s at (Species id sp) f (before b (before e₁ (before e₂ (before e₃ (before e₄ h))))) enough =
    let x = sp.constants in
    let b₁ = bytes 4 (unsigned x.c1) in
    let b₂ = bytes 4 (unsigned x.c2) in
    let b₃ = bytes 4 (unsigned x.c3) in
    let b₄ = bytes 4 (unsigned x.c4) in
    let three = stands_first (b₁ ++ b₂ ++ b₃) b₄ h in
    let two = stands_first (b₁ ++ b₂) b₃ three in
    let root : byte s (at + 1 + 2) ≡ sp.root = ap (byte s) (omega arith) ∙ e₃ in
    let gravity : byte s (at + 1 + 3) ≡ sp.gravity = ap (byte s) (omega arith) ∙ e₄ in
    let c₁ = signed_of_bytes x.c1 s (at + 1 + 4) f.1.c1 (stands_at (stands_first b₁ b₂ two) (omega arith)) in
    let c₂ = signed_of_bytes x.c2 s (at + 1 + 8) f.1.c2 (stands_at (stands_second b₁ b₂ two) (omega arith)) in
    let c₃ = signed_of_bytes x.c3 s (at + 1 + 12) f.1.c3 (stands_at (stands_second (b₁ ++ b₂) b₃ three) (omega arith)) in
    let c₄ = signed_of_bytes x.c4 s (at + 1 + 16) f.1.c4 (stands_at (stands_second (b₁ ++ b₂ ++ b₃) b₄ h) (omega arith)) in
    read_by s at 1 (omega arith) b ∙ with_operands_gives s (at + 1) 20 _ (omega arith) ∙ rw (e₁, e₂, root, gravity, c₁, c₂, c₃, c₄, add_assoc at 1 20)
read_encoded s at (Factor cm factor) f (before b (before e₁ (before e₂ h))) enough =
    read_by s at 2 (omega arith) b ∙ with_operands_gives s (at + 1) 2 _ (omega arith) ∙ cc (add_assoc at 1 2)
read_encoded s at (Open stratum species p q) f (before b (before e₁ (before e₂ h))) enough =
    let n₁ : number_at 4 s (at + 1 + 2) ≡ p = number_of_bytes 4 p f.2 (stands_at (stands_first (bytes 4 p) (bytes 4 q) h) (omega arith)) in
    let n₂ : number_at 4 s (at + 1 + 6) ≡ q = number_of_bytes 4 q f.3 (stands_at (stands_second (bytes 4 p) (bytes 4 q) h) (omega arith)) in
    read_by s at 3 (omega arith) b ∙ with_operands_gives s (at + 1) 10 _ (omega arith) ∙ cc (add_assoc at 1 10)
read_encoded s at (Measured class count) f (before b (before e₁ h)) enough =
    let n = number_of_bytes 2 count f.1 h in
    read_by s at 4 (omega arith) b ∙ with_operands_gives s (at + 1) 3 _ (omega arith) ∙ cc (add_assoc at 1 3)
read_encoded s at (Height cm tenths) f (before b (before e₁ h)) enough =
    let n = number_of_bytes 2 tenths f.1 h in
    read_by s at 5 (omega arith) b ∙ with_operands_gives s (at + 1) 3 _ (omega arith) ∙ cc (add_assoc at 1 3)
read_encoded s at Close f (before b h) enough = read_by s at 6 (omega arith) b
read_encoded s at End f (before b h) enough = read_by s at 7 (omega arith) b
read_encoded s at (Small carbon count) f (before b h) enough =
    let n₁ = number_of_bytes 4 carbon f.0 (stands_first (bytes 4 carbon) (bytes 4 count) h) in
    let n₂ = number_of_bytes 4 count f.1 (stands_second (bytes 4 carbon) (bytes 4 count) h) in
    read_by s at 8 (omega arith) b ∙ with_operands_gives s (at + 1) 8 _ (omega arith) ∙ cc (add_assoc at 1 8)

-- ---- a command that is read is encoded there

pub record ReadIsEncoded (s : List ℕ) (at next : ℕ) (c : Command) : Type 0 where
  pub fits : Fits c
  pub next_is : next ≡ at + length (encode c)
  pub inside : next ≤ length s
  pub encoded_there : take (length (encode c)) (drop at s) ≡ encode c

-- a command's byte that was met or not
by_byte : {X : Type 0} (b k : ℕ) (x y : Report (Command × ℕ)) {r : Command × ℕ}
    → cond (eqb b k) x y ≡ gives r → (b ≡ k → x ≡ gives r → X) → (y ≡ gives r → X) → X
by_byte {X} b k x y {r} e this other = by_test (eqb b k) refl e
  where
    by_test : (test : Bool) → eqb b k ≡ test → cond test x y ≡ gives r → X
    by_test true t e = this (eqb-true b k t) e
    by_test false t e = other e

signed_stands : (s : List ℕ) (i : ℕ) → AllBytes s → Stands (bytes 4 (unsigned (signed (number_at 4 s i)))) s i
signed_stands s i all = rw (unsigned_signed (number_at 4 s i) (number_below 4 s i all)) (bytes_of_number 4 s i all)

module _ (s : List ℕ) (at next : ℕ) (c : Command) where
  gives_encoded : (d : Command) (after : ℕ) → Fits d → Stands (encode d) s at → after ≡ at + length (encode d) → after ≤ length s
      → ◌≡◌ {A = Report (Command × ℕ)} (gives (d, after)) (gives (c, next)) → ReadIsEncoded s at next c
  gives_encoded d after f h after_is enough e =
      subst (λ (r : Command × ℕ). ReadIsEncoded s at r.1 r.0) (figure_is e)
      (record { fits = f; next_is = after_is; inside = enough; encoded_there = stands_taken (encode d) s at h (omega arith) })

  with_operands_encoded : (width : ℕ) (d : Command) → Fits d → Stands (encode d) s at → length (encode d) ≡ 1 + width
      → with_operands s (at + 1) width d ≡ gives (c, next) → ReadIsEncoded s at next c
  with_operands_encoded width d f h l e =
      let w = test_passed (leb (at + 1 + width) (length s)) 3 (gives (d, at + 1 + width)) e in
      gives_encoded d (at + 1 + width) f h (omega arith) (leb-true (at + 1 + width) (length s) w.0) w.1

  module _ (all : AllBytes s) where
    species_encoded : byte s at ≡ 1 → species_from s (at + 1) ≡ gives (c, next) → ReadIsEncoded s at next c
    unfolding species_from
    species_encoded b e =
        let fits_there : (i : ℕ) → FitsFour (signed (number_at 4 s i)) = λ i. signed_fits (number_at 4 s i) (number_below 4 s i all) in
        let one = signed_stands s (at + 1 + 4) all in
        let two = stands_append one (stands_at (signed_stands s (at + 1 + 8) all) (omega arith)) in
        let three = stands_append two (stands_at (signed_stands s (at + 1 + 12) all) (omega arith)) in
        let four = stands_append three (stands_at (signed_stands s (at + 1 + 16) all) (omega arith)) in
        with_operands_encoded 20 _ (
          all (at + 1),
          record {
            crown = all (at + 1 + 1);
            root = all (at + 1 + 2);
            gravity = all (at + 1 + 3);
            c1 = fits_there (at + 1 + 4);
            c2 = fits_there (at + 1 + 8);
            c3 = fits_there (at + 1 + 12);
            c4 = fits_there (at + 1 + 16);
          },
        )
        (before b (before refl (before refl (before (ap (byte s) (omega arith)) (before (ap (byte s) (omega arith))
        (stands_at four (omega arith))))))) refl e

    factor_encoded : byte s at ≡ 2 → factor_from s (at + 1) ≡ gives (c, next) → ReadIsEncoded s at next c
    unfolding factor_from
    factor_encoded b e = with_operands_encoded 2 _ (all (at + 1), all (at + 1 + 1)) (before b (before refl (before refl nothing))) refl e

    open_encoded : byte s at ≡ 3 → open_from s (at + 1) ≡ gives (c, next) → ReadIsEncoded s at next c
    unfolding open_from
    open_encoded b e =
        let one = bytes_of_number 4 s (at + 1 + 2) all in
        let two = stands_append one (stands_at (bytes_of_number 4 s (at + 1 + 6) all) (omega arith)) in
        with_operands_encoded 10 _ (all (at + 1), all (at + 1 + 1), number_below 4 s (at + 1 + 2) all, number_below 4 s (at + 1 + 6) all)
        (before b (before refl (before refl (stands_at two (omega arith))))) refl e

    measured_encoded : byte s at ≡ 4 → measured_from s (at + 1) ≡ gives (c, next) → ReadIsEncoded s at next c
    unfolding measured_from
    measured_encoded b e =
        with_operands_encoded 3 _ (all (at + 1), number_below 2 s (at + 1 + 1) all) (before b (before refl (bytes_of_number 2 s (at + 1 + 1) all))) refl e

    height_encoded : byte s at ≡ 5 → height_from s (at + 1) ≡ gives (c, next) → ReadIsEncoded s at next c
    unfolding height_from
    height_encoded b e =
        with_operands_encoded 3 _ (all (at + 1), number_below 2 s (at + 1 + 1) all) (before b (before refl (bytes_of_number 2 s (at + 1 + 1) all))) refl e

    small_encoded : byte s at ≡ 8 → small_from s (at + 1) ≡ gives (c, next) → ReadIsEncoded s at next c
    unfolding small_from
    small_encoded b e =
        let two = stands_append (bytes_of_number 4 s (at + 1) all) (bytes_of_number 4 s (at + 1 + 4) all) in
        with_operands_encoded 8 _ (number_below 4 s (at + 1) all, number_below 4 s (at + 1 + 4) all) (before b two) refl e

-- by the command's byte
pub read_is_encoded : (s : List ℕ) (at next : ℕ) (c : Command) → AllBytes s → read s at ≡ gives (c, next) → ReadIsEncoded s at next c
unfolding read command_from
read_is_encoded s at next c all e =
    let b = byte s at in
    let start = test_passed (ltb at (length s)) 1 (command_from b s (at + 1)) e in
    let one : at + 1 ≤ length s = omega (arith, ltb-true at (length s) start.0) in
    by_byte b 1 _ _ start.1 (species_encoded s at next c all) λ e.
    by_byte b 2 _ _ e (factor_encoded s at next c all) λ e.
    by_byte b 3 _ _ e (open_encoded s at next c all) λ e.
    by_byte b 4 _ _ e (measured_encoded s at next c all) λ e.
    by_byte b 5 _ _ e (height_encoded s at next c all) λ e.
    by_byte b 6 _ _ e (λ is. gives_encoded s at next c Close (at + 1) tt (before is nothing) refl one) λ e.
    by_byte b 7 _ _ e (λ is. gives_encoded s at next c End (at + 1) tt (before is nothing) refl one) λ e.
    by_byte b 8 _ _ e (small_encoded s at next c all) never

-- ---- the place after a command that is read: past the command's own, and no further than the end. Of any numbers, bytes or not

module _ (s : List ℕ) (at : ℕ) (c : Command) (next : ℕ) where
  gives_moves : (d : Command) (after : ℕ) → at < after → after ≤ length s → ◌≡◌ {A = Report (Command × ℕ)} (gives (d, after)) (gives (c, next))
      → (at < next) × (next ≤ length s)
  gives_moves d after past inside e = subst (λ (r : Command × ℕ). (at < r.1) × (r.1 ≤ length s)) (figure_is e) (past, inside)

  with_operands_moves : (width : ℕ) (d : Command) → with_operands s (at + 1) width d ≡ gives (c, next) → (at < next) × (next ≤ length s)
  with_operands_moves width d e =
      let w = test_passed (leb (at + 1 + width) (length s)) 3 (gives (d, at + 1 + width)) e in
      gives_moves d (at + 1 + width) (omega arith) (leb-true (at + 1 + width) (length s) w.0) w.1

  pub read_moves : read s at ≡ gives (c, next) → (at < next) × (next ≤ length s)
  unfolding read command_from species_from factor_from open_from measured_from height_from small_from
  read_moves e =
      let b = byte s at in
      let start = test_passed (ltb at (length s)) 1 (command_from b s (at + 1)) e in
      let one : at + 1 ≤ length s = omega (arith, ltb-true at (length s) start.0) in
      by_byte b 1 _ _ start.1 (λ is. with_operands_moves 20 _) λ e.
      by_byte b 2 _ _ e (λ is. with_operands_moves 2 _) λ e.
      by_byte b 3 _ _ e (λ is. with_operands_moves 10 _) λ e.
      by_byte b 4 _ _ e (λ is. with_operands_moves 3 _) λ e.
      by_byte b 5 _ _ e (λ is. with_operands_moves 3 _) λ e.
      by_byte b 6 _ _ e (λ is. gives_moves Close (at + 1) (omega arith) one) λ e.
      by_byte b 7 _ _ e (λ is. gives_moves End (at + 1) (omega arith) one) λ e.
      by_byte b 8 _ _ e (λ is. with_operands_moves 8 _) never

-- ---- a command that is written

-- what is answered where the command fits
pub write_gives : (b : List ℕ) (at : ℕ) (c : Command) → at + length (encode c) ≤ length b → write b at c ≡ gives (at + length (encode c))
unfolding write
write_gives b at c fits = rw le-leb

-- "only the command's bytes change"
pub write_keeps : (b : List ℕ) (at : ℕ) (c : Command) (i : ℕ) → (i < at) ⊎ (at + length (encode c) ≤ i) → byte (buffer_after b at c) i ≡ byte b i
write_keeps b at c i outside = store_cases (λ l. byte l i ≡ byte b i) b at (encode c) (λ fits. stored_keeps b at (encode c) (omega arith) i outside) refl

pub write_keeps_length : (b : List ℕ) (at : ℕ) (c : Command) → length (buffer_after b at c) ≡ length b
write_keeps_length b at c = store_keeps_length b at (encode c)

-- "a refused write leaves its buffer as it was" (demand 1)
pub refused_keeps : (b : List ℕ) (at n : ℕ) (c : Command) → write b at c ≡ refused n → buffer_after b at c ≡ b
refused_keeps b at n c e = store_cases (λ l. l ≡ b) b at (encode c) (λ fits. never (sym e ∙ write_gives b at c fits)) refl

-- "A command written and read is the same command"
pub write_read : (b : List ℕ) (at next : ℕ) (c : Command) → Fits c → write b at c ≡ gives next → read (buffer_after b at c) at ≡ gives (c, next)
unfolding write
write_read b at next c f e =
    let w = test_passed (fits_at b at c) 4 (gives (at + length (encode c))) e in
    let fits : at + length (encode c) ≤ length b = leb-true (at + length (encode c)) (length b) w.0 in
    rw (store_fits b at (encode c) fits, ← figure_is w.1)
    (read_encoded (stored_at b at (encode c)) at c f (stands_stored b at (encode c) (omega arith)) (rw (length_stored b at (encode c) fits) fits))

-- "the bytes of a command read and written again are the same bytes"
pub read_write : (s : List ℕ) (at next : ℕ) (c : Command) → AllBytes s → read s at ≡ gives (c, next)
    → (write s at c ≡ gives next) × (buffer_after s at c ≡ s)
read_write s at next c all e =
    let r = read_is_encoded s at next c all e in
    let fits : at + length (encode c) ≤ length s = omega arith in
    (rw r.next_is (write_gives s at c fits), store_fits s at (encode c) fits ∙ stored_again s at (encode c) r.encoded_there)

-- both as the promises say them, of any answer; x is the buffer after writing
pub reads_back : {x : List ℕ} (b : List ℕ) (at : ℕ) (c : Command) (r : Report ℕ) → Fits c → r ≡ write b at c → x ≡ buffer_after b at c
    → ReadsBack x at c r
reads_back b at c (refused n) f e is = tt
reads_back b at c (gives next) f e is = rw is (write_read b at next c f (sym e))

pub writes_back : (s : List ℕ) (at : ℕ) (r : Report (Command × ℕ)) → AllBytes s → r ≡ read s at → WritesBack s at r
writes_back s at (refused n) all e = tt
writes_back s at (gives (c, next)) all e = read_write s at next c all (sym e)
