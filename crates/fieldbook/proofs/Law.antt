-- What is proved of the layout.
--     zero_is_totalled, zero_is_read, zero_is_written, zero_is_found, zero_is_figure, zero_is_tariff     0 is told of no refusal
--     answered_again      the numbers of totalling say just what it answers
--     natural_wide, negative_wide      a signed operand stands in two's complement of 64 bits
--     numbers_command, command_numbers, no_command      numbers stand for a command exactly where they are its numbers
--     written_read, read_written      numbers that are written are read back, and those that are read are written as the same bytes
use Rattle.std.specs.Prelude.{ℕ, zero, suc, ◌+◌, ◌-◌, ◌*◌, ◌%◌, ◌<◌, ◌≡◌, refl, Bool, true, false, cond, List, [], ◌∷◌, eqb, ltb, leb, ℤ, pos, negsuc, length, get_or}
use Rattle.std.proofs.Common.{mod-lt, mod-eq_of_lt, arith, ◌∙◌, sym, ap, ap₂, subst, lt-ltb, le-ltb, eqb-true, eq-eqb}
use Rattle.std.proofs.Math.Nat.{mul-add-mod_self_right}
use Rattle.std.proofs.Math.Bool.{and-eq-true_iff}
use Rattle.std.proofs.lemmas.Bool.{false≢true}
use Rattle.biomass.specs.Report.{Report, refused, gives, ◌then◌}
use Rattle.biomass.proofs.Law.Gives.{never, figure_is, number_is, test_passed, made}
use Rattle.biomass.proofs.Law.Declines.{Declines, Six, SixOrThirteen, gives_declines, unless_declines, then_declines, six_declines, six_or_thirteen_declines, cond_declines}
use Rattle.codec.specs.Bytes.{AllBytes, signed, unsigned}
use Rattle.codec.specs.Command.{Fits, FitsFour, SpeciesFits}
use Rattle.codec.specs.Reading.{read}
use Rattle.codec.specs.Writing.{fits_at, write}
use Rattle.survey.specs.AsWritten.{is_in}
use Rattle.survey.specs.Sheet.{find_row}
use Rattle.line.specs.Row.{row_length, row_from}
use Rattle.survey.specs.Total.{Answer, refused_at, totalled, total}
use Rattle.codec.proofs.Law.Bytes.{unsigned_fits, signed_unsigned, signed_fits}
use Rattle.survey.proofs.Law.Reach.{read_declines}
use Rattle.codec.proofs.Law.RoundTrip.{read_is_encoded, write_read, read_write}
use Rattle.survey.proofs.Law.Total.{of_totalling, refusals_of_totalling}
use Rattle.codec.specs.declared.command.Command.{Command}
use Rattle.codec.specs.declared.command.Command.TheVariants.{Species, Factor, Open, Measured, Height, Close, End, Small}
use Rattle.survey.specs.declared.total.Totals.{Totals}
use Rattle.fieldbook.specs.Numbers.{extended, numbers, one_byte, two_bytes, four_bytes, species_of, cut, same, command_of}
use Rattle.fieldbook.specs.Layout.{refusal, book_refusal, totals, answered, command, write_numbers, buffer_after}

-- ---- 0 is told of no refusal

-- a report that is none
pub record Given {A : Type 0} (r : Report A) : Type 0 where
  pub figure : A
  pub is : r ≡ gives figure

abbrev NotZero : ℕ → Type 0
NotZero n = n ≡ 0 → ⊥

zero_gives : {A : Type 0} (r : Report A) → Declines NotZero r → refusal r ≡ 0 → Given r
zero_gives (refused n) declines none = absurd (declines n refl none)
zero_gives (gives a) declines none = record { figure = a; is = refl }

-- of the figures, which decline with 6, and the single tariff with 13 too (biomass's Law.Declines has each)
pub zero_is_figure : {A : Type 0} (r : Report A) → Declines Six r → refusal r ≡ 0 → Given r
zero_is_figure r declines = zero_gives r (six_declines NotZero (λ e. omega arith) declines)

pub zero_is_tariff : (r : Report ℕ) → Declines SixOrThirteen r → refusal r ≡ 0 → Given r
zero_is_tariff r declines = zero_gives r (six_or_thirteen_declines NotZero (λ e. omega arith) (λ e. omega arith) declines)

pub zero_is_read : (book : List ℕ) (at : ℕ) → refusal (read book at) ≡ 0 → Given (read book at)
zero_is_read book at = zero_gives (read book at) (read_declines NotZero book (λ e. omega arith) (λ e. omega arith) at (λ end e. omega arith))

pub zero_is_found : (sheet : List ℕ) (i : ℕ) → refusal (find_row sheet i) ≡ 0 → Given (find_row sheet i)
unfolding find_row
zero_is_found sheet i =
    zero_gives (find_row sheet i)
    (unless_declines NotZero (leb (row_length * i + row_length) (length sheet)) 1 _ (λ short e. omega arith) (λ long. gives_declines NotZero (row_from sheet (row_length * i))))

-- an answer that has totals
pub record HasTotals (a : Answer) : Type 0 where
  pub totals : Totals
  pub is : a ≡ totalled totals

pub zero_is_totalled : (book sheet : List ℕ) → book_refusal (total book sheet) ≡ 0 → HasTotals (total book sheet)
zero_is_totalled book sheet = by_answer (total book sheet) refl
  where
    by_answer : (a : Answer) → total book sheet ≡ a → book_refusal a ≡ 0 → HasTotals a
    by_answer (totalled t) e none = record { totals = t; is = refl }
    by_answer (refused_at n at) e none = absurd (false≢true (ap (λ (m : ℕ). is_in m of_totalling) (sym none) ∙ refusals_of_totalling book sheet n at e))

-- so nothing is lost: what the numbers say is what totalling answers
pub answered_again : (book sheet : List ℕ) → answered (book_refusal (total book sheet)) (totals (total book sheet)) ≡ total book sheet
answered_again book sheet = by_answer (total book sheet) refl
  where
    by_answer : (a : Answer) → total book sheet ≡ a → answered (book_refusal a) (totals a) ≡ a
    by_answer (totalled t) e = refl
    by_answer (refused_at zero at) e = absurd (false≢true (refusals_of_totalling book sheet 0 at e))
    by_answer (refused_at (suc n) at) e = refl

-- ---- numbers and commands

-- a number from 0 on is itself, and −(n + 1) is 2^64 − 1 − n
pub natural_wide : (n : ℕ) → n < 2147483648 → extended (unsigned (pos n)) ≡ n
natural_wide n small = rw lt-ltb

pub negative_wide : (n : ℕ) → n < 2147483648 → extended (unsigned (negsuc n)) + n ≡ 18446744073709551615
negative_wide n small = rw (le-ltb (4294967295 - n) 2147483648 (omega arith)) (omega arith)

pub same_itself : (a : List ℕ) → same a a ≡ true
same_itself [] = refl
same_itself (x ∷ xs) = rw (eq-eqb x x refl) (same_itself xs)

same_is : (a b : List ℕ) → same a b ≡ true → a ≡ b
same_is [] [] e = refl
same_is [] (y ∷ ys) e = absurd (false≢true e)
same_is (x ∷ xs) [] e = absurd (false≢true e)
same_is (x ∷ xs) (y ∷ ys) e =
    let both = (and-eq-true_iff (eqb x y) (same xs ys)).0 e in
    ap₂ (λ (z : ℕ) (zs : List ℕ). z ∷ zs) (eqb-true x y both.0) (same_is xs ys both.1)

-- numbers that stand for a command are its numbers
pub numbers_command : (ns : List ℕ) (c : Command) → command_of ns ≡ gives c → numbers c ≡ ns
unfolding command_of
numbers_command ns c e =
    let m = made (cut ns) _ e in
    let passed = test_passed (same (numbers m.figure) ns) 6 (gives m.figure) m.next in
    ap numbers (sym (figure_is passed.1)) ∙ same_is (numbers m.figure) ns passed.0

-- a constant made wide and cut again is as it was
extended_cut : (n : ℕ) → n < 4294967296 → extended n % 4294967296 ≡ n
extended_cut n fits = by_half (ltb n 2147483648)
  where
    by_half : (low : Bool) → cond low n (n + 18446744069414584320) % 4294967296 ≡ n
    by_half true = mod-eq_of_lt fits
    by_half false =
        let moved : n + 18446744069414584320 ≡ 4294967295 * 4294967296 + n = omega arith in
        ap (λ (m : ℕ). m % 4294967296) moved ∙ mul-add-mod_self_right 4294967295 4294967296 n ∙ mod-eq_of_lt fits

constant_cut : (z : ℤ) → FitsFour z → signed (extended (unsigned z) % 4294967296) ≡ z
constant_cut z fits = rw (extended_cut (unsigned z) (unsigned_fits z fits)) (signed_unsigned z fits)

cut_numbers : (c : Command) → Fits c → cut (numbers c) ≡ gives c
unfolding cut
cut_numbers (Species id s) (id_fits, fits) =
    rw (
      mod-eq_of_lt id_fits,
      mod-eq_of_lt fits.crown,
      mod-eq_of_lt fits.root,
      mod-eq_of_lt fits.gravity,
      constant_cut s.constants.c1 fits.c1,
      constant_cut s.constants.c2 fits.c2,
      constant_cut s.constants.c3 fits.c3,
      constant_cut s.constants.c4 fits.c4,
    )
cut_numbers (Factor cm factor) fits = rw (mod-eq_of_lt fits.0, mod-eq_of_lt fits.1)
cut_numbers (Open stratum species p q) (f₁, f₂, f₃, f₄) = rw (mod-eq_of_lt f₁, mod-eq_of_lt f₂, mod-eq_of_lt f₃, mod-eq_of_lt f₄)
cut_numbers (Measured class count) fits = rw (mod-eq_of_lt fits.0, mod-eq_of_lt fits.1)
cut_numbers (Height cm tenths) fits = rw (mod-eq_of_lt fits.0, mod-eq_of_lt fits.1)
cut_numbers Close fits = refl
cut_numbers End fits = refl
cut_numbers (Small carbon count) fits = rw (mod-eq_of_lt fits.0, mod-eq_of_lt fits.1)

-- and every command's numbers stand for it
pub command_numbers : (c : Command) → Fits c → command_of (numbers c) ≡ gives c
unfolding command_of
command_numbers c fits = rw (cut_numbers c fits, same_itself (numbers c))

-- so numbers that are declined are those of no command
pub no_command : (ns : List ℕ) (n : ℕ) → command_of ns ≡ refused n → (c : Command) → Fits c → numbers c ≡ ns → ⊥
no_command ns n e c fits is = never (sym e ∙ ap command_of (sym is) ∙ command_numbers c fits)

-- what is cut to its width fits
abbrev Fit : Report Command → Type 0
Fit (refused n) = Unit
Fit (gives c) = Fits c

either_fits : (test : Bool) (x y : Report Command) → Fit x → Fit y → Fit (cond test x y)
either_fits true x y f g = f
either_fits false x y f g = g

cut_fits : (ns : List ℕ) → Fit (cut ns)
unfolding cut
cut_fits ns =
    let b = get_or ns 0 0 in
    let one : (i : ℕ) → one_byte ns i < 256 = λ i. mod-lt (get_or ns i 0) (omega arith) in
    let two : (i : ℕ) → two_bytes ns i < 65536 = λ i. mod-lt (get_or ns i 0) (omega arith) in
    let four : (i : ℕ) → four_bytes ns i < 4294967296 = λ i. mod-lt (get_or ns i 0) (omega arith) in
    let constant : (i : ℕ) → FitsFour (signed (four_bytes ns i)) = λ i. signed_fits (four_bytes ns i) (four i) in
    let species : SpeciesFits (species_of ns) =
    record { crown = one 2; root = one 3; gravity = one 4; c1 = constant 5; c2 = constant 6; c3 = constant 7; c4 = constant 8 } in
    either_fits (eqb b 1) _ _ (one 1, species)
    (either_fits (eqb b 2) _ _ (one 1, one 2)
    (either_fits (eqb b 3) _ _ (one 1, one 2, four 3, four 4)
    (either_fits (eqb b 4) _ _ (one 1, two 2)
    (either_fits (eqb b 5) _ _ (one 1, two 2)
    (either_fits (eqb b 6) _ _ tt
    (either_fits (eqb b 7) _ _ tt
    (either_fits (eqb b 8) _ _ (four 1, four 2) tt)))))))

command_fits : (ns : List ℕ) (c : Command) → command_of ns ≡ gives c → Fits c
unfolding command_of
command_fits ns c e =
    let m = made (cut ns) _ e in
    let passed = test_passed (same (numbers m.figure) ns) 6 (gives m.figure) m.next in
    subst Fits (figure_is passed.1) (subst Fit m.gave (cut_fits ns))

-- ---- reading and writing

-- each refusal on the way is 2, 6 or 4
cut_declines : (ns : List ℕ) → Declines NotZero (cut ns)
unfolding cut
cut_declines ns =
    let b = get_or ns 0 0 in
    let command : (k : ℕ) (c : Command) (rest : Report Command) → Declines NotZero rest → Declines NotZero (cond (eqb b k) (gives c) rest) =
    λ k c rest. cond_declines NotZero (eqb b k) (gives c) rest (gives_declines NotZero c) in
    command 1 _ _ (command 2 _ _ (command 3 _ _ (command 4 _ _ (command 5 _ _ (command 6 _ _ (command 7 _ _ (command 8 _ _ λ n e none.
    let two : 2 ≡ n = number_is e in
    omega arith)))))))

pub zero_is_written : (b : List ℕ) (at : ℕ) (ns : List ℕ) → refusal (write_numbers b at ns) ≡ 0 → Given (write_numbers b at ns)
unfolding command_of write
zero_is_written b at ns =
    zero_gives (write_numbers b at ns)
    (then_declines NotZero (command_of ns) _
    (then_declines NotZero (cut ns) _ (cut_declines ns) λ c.
    unless_declines NotZero (same (numbers c) ns) 6 _ (λ others e. omega arith) (λ is. gives_declines NotZero c)) λ c.
    unless_declines NotZero (fits_at b at c) 4 _ (λ short e. omega arith) (λ fits. gives_declines NotZero _))

-- numbers that are written are read back
pub written_read : (b : List ℕ) (at next : ℕ) (ns : List ℕ) → write_numbers b at ns ≡ gives next
    → command (read (buffer_after b at (command_of ns)) at) ≡ ns
written_read b at next ns e =
    let m = made (command_of ns) _ e in
    let c = m.figure in
    ap (λ (r : Report Command). command (read (buffer_after b at r) at)) m.gave
    ∙ ap command (write_read b at next c (command_fits ns c m.gave) m.next)
    ∙ numbers_command ns c m.gave

-- and numbers that are read are written again as the same bytes
pub read_written : (s : List ℕ) (at next : ℕ) (c : Command) → AllBytes s → read s at ≡ gives (c, next)
    → (write_numbers s at (command (read s at)) ≡ gives next) × (buffer_after s at (command_of (command (read s at))) ≡ s)
read_written s at next c all e =
    let again = read_write s at next c all e in
    let stands : command_of (command (read s at)) ≡ gives c = ap (λ (r : Report (Command × ℕ)). command_of (command r)) e ∙ command_numbers c (read_is_encoded s at next c all e).fits in
    (ap (λ (r : Report Command). r then λ k. write s at k) stands ∙ again.0, ap (buffer_after s at) stands ∙ again.1)
