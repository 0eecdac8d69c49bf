-- A line's command and its neighbour, another or a declaration, are taken in the one order where they are in the other, and come to the same survey (`exchanged`).
-- Each has a part of the line: measured trees, height trees, small trees; or of the survey: species, factors. Of two with the same part both add to its sums, or, of
-- small trees, neither order is taken.
use Rattle.std.specs.Prelude.{ℕ, ◌+◌, ◌*◌, ◌<◌, ◌≡◌, refl, Bool, true, false, Some, is_some, set, leb, ltb}
use Rattle.std.proofs.Common.{lt_of_not-le, arith, ◌∙◌, sym, ap, ap₂, true≢false, le-leb, lt-ltb}
use Rattle.std.proofs.Math.Decide.{dec_le}
use Rattle.std.proofs.lemmas.Bool.{lt-leb}
use Rattle.biomass.specs.Whole.{inside}
use Rattle.biomass.specs.Report.{Report, refused, gives, unless, ◌then◌, when}
use Rattle.biomass.specs.Limits.{most_measured, most_heights, most_small}
use Rattle.biomass.proofs.Law.Report.{inside_true}
use Rattle.biomass.proofs.Law.SameChecks.{when_same, then_same, when_then, unless_then, then_then}
use Rattle.rules.specs.Checks.{declaring, giving}
use Rattle.line.specs.Line.{line_with, tallied, with_trees, with_height, tariff_of, factor_at, add_small}
use Rattle.line.proofs.Law.SmallTrees.{small_alone_lem}
use Rattle.survey.specs.Survey.{with_tables, declared, declare, give_factor, measure, give_height, give_small}
use Rattle.survey.specs.Apply.{on_line}
use Rattle.survey.specs.AsWritten.{as_written}
use Rattle.rules.proofs.Law.Passed.{Gives, then_such, passed}
use Rattle.survey.proofs.Law.Checks.{given_same}
use Rattle.codec.specs.declared.command.Species.{Species}
use Rattle.codec.specs.declared.command.Command.{Command}
use Rattle.line.specs.declared.line.Tally.{Tally}
use Rattle.line.specs.declared.line.Heights.{Heights}
use Rattle.line.specs.declared.line.SmallTrees.{SmallTrees}
use Rattle.line.specs.declared.line.Line.{Line}
use Rattle.survey.specs.declared.survey.Survey.{Survey}
use Rattle.order.specs.Order.{of_line, parts}
use Rattle.order.proofs.Law.Part.{unnumbered, Exchanges, exchanges_same, Part, beside, note, Note, within, line_part, of_open_line}

-- ---- the commands of a line, by what they make of it

ruleset thens = (when_then, unless_then, then_then, then_same)

-- a line with other measured, height or small trees
abbrev put_tally : Tally → Line → Line
put_tally t l = line_with l t l.heights l.small

abbrev put_heights : Heights → Line → Line
put_heights h l = line_with l l.tally h l.small

abbrev put_small : SmallTrees → Line → Line
put_small m l = line_with l l.tally l.heights m

-- measured trees
abbrev counted : ℕ → ℕ → Line → Report (ℕ × ℕ)
counted class count l = unless (inside 7 class 100) 6 (unless (leb 1 count) 6 (gives (class, count)))

abbrev add_counted : ℕ × ℕ → Tally → Report Tally
add_counted i t = unless (leb (t.n + i.1) most_measured) 11 (gives (tallied i.0 i.1 t))

abbrev note_measured : ℕ → ℕ → Line → Report Line
note_measured class count l =
    unless (inside 7 class 100) 6
    (unless (leb 1 count) 6
    (unless (leb (l.tally.n + count) most_measured) 11
    (gives (with_trees class count l))))

measured_note : (class count : ℕ) → Note (counted class count) add_counted (λ l. l.tally) put_tally (note_measured class count)
measured_note class count = note (counted class count) add_counted _ put_tally (λ l. search thens depth 14)

-- height trees
abbrev tariff_at : ℕ → ℕ → Line → Report ℕ
tariff_at cm tenths l = tariff_of l.species cm tenths

abbrev add_tariff : ℕ → Heights → Report Heights
add_tariff T h = when (leb most_heights h.number) 11 (gives (record { number = h.number + 1; tariffs = h.tariffs + T }))

abbrev note_height : ℕ → ℕ → Line → Report Line
note_height cm tenths l =
    tariff_of l.species cm tenths then λ T.
    when (leb most_heights l.heights.number) 11
    (gives (with_height T l))

height_note : (cm tenths : ℕ) → Note (tariff_at cm tenths) add_tariff (λ l. l.heights) put_heights (note_height cm tenths)
height_note cm tenths = note (tariff_at cm tenths) add_tariff _ put_heights (λ l. search thens depth 14)

-- small trees, which are looked at with nothing else noted of the line
abbrev small_alone : Line → Line
small_alone l = line_with l (record { n = 0; squares = 0 }) (record { number = 0; tariffs = 0 }) l.small

abbrev small_given : ℕ → ℕ → Line → Report SmallTrees
small_given carbon count l = add_small carbon count (small_alone l) then λ m. gives m.small

small_part_lem : (carbon count : ℕ) → Part (small_given carbon count) put_small (add_small carbon count)
small_part_lem carbon count =
    record {
      is = λ l.
          then_then (λ m. gives (put_small m l)) (add_small carbon count (small_alone l)) (λ m. gives m.small) _ (λ m taken. refl)
          ∙ small_alone_lem carbon count (small_alone l) l.tally l.heights;
    }

-- ---- two of a kind

-- sums do not hang on the order of what is added, and where both fit, each fits before the other
swapped : (a b c : ℕ) → a + b + c ≡ a + c + b
swapped a b c = omega arith

too_many : (i j : ℕ × ℕ) (t : Tally) → most_measured < t.n + i.1 + j.1 → unnumbered (add_counted i t then add_counted j) ≡ refused 0
too_many i j t over = by_first (leb (t.n + i.1) most_measured)
  where
    by_first : (fits : Bool) → unnumbered (unless fits 11 (gives (tallied i.0 i.1 t)) then add_counted j) ≡ refused 0
    by_first true = rw (lt-leb (t.n + i.1 + j.1) most_measured over)
    by_first false = refl

counts_either : (i j : ℕ × ℕ) (t : Tally) → unnumbered (add_counted i t then add_counted j) ≡ unnumbered (add_counted j t then add_counted i)
counts_either (a, i) (b, j) t =
    elim (dec_le (t.n + i + j) most_measured) [
      | yes fit ↦
          rw (
            le-leb (t.n + i) most_measured (omega arith),
            le-leb (t.n + j) most_measured (omega arith),
            le-leb (t.n + i + j) most_measured fit,
            le-leb (t.n + j + i) most_measured (omega arith),
          )
          (ap₂ (λ n S. gives (record { n = n; squares = S })) (swapped t.n i j) (swapped t.squares (i * (a * a)) (j * (b * b))))
      | no over ↦ too_many (a, i) (b, j) t (lt_of_not-le over) ∙ sym (too_many (b, j) (a, i) t (omega (arith, lt_of_not-le over)))
    ]

tariffs_either : (T U : ℕ) (h : Heights) → unnumbered (add_tariff T h then add_tariff U) ≡ unnumbered (add_tariff U h then add_tariff T)
tariffs_either T U h = by_room (leb most_heights h.number)
  where
    by_room : (full : Bool)
        → unnumbered (when full 11 (gives (record { number = h.number + 1; tariffs = h.tariffs + T })) then add_tariff U)
        ≡ unnumbered (when full 11 (gives (record { number = h.number + 1; tariffs = h.tariffs + U })) then add_tariff T)
    by_room true = refl
    by_room false =
        ap (λ sum. unnumbered (when (leb most_heights (h.number + 1)) 11 (gives (record { number = h.number + 1 + 1; tariffs = sum }))))
        (swapped h.tariffs T U)

-- of two small-tree commands the second is refused: a count that is given is 1 or more
some_given : (count : ℕ) → inside 1 count most_small ≡ true → ltb 0 count ≡ true
some_given count e = lt-ltb 0 count (inside_true 1 count most_small e).least

first_given : (carbon count : ℕ) (l : Line) → Gives (λ m. ltb 0 m.small.count ≡ true) (add_small carbon count l)
unfolding add_small
first_given carbon count l = search (passed, some_given) depth 8

none_again : (carbon count : ℕ) (l : Line) → ltb 0 l.small.count ≡ true → Gives (λ m. ⊥) (add_small carbon count l)
unfolding add_small
none_again carbon count l given = let clash : ltb 0 l.small.count ≡ false → ⊥ = λ none. true≢false (sym given ∙ none) in search (passed, clash) depth 8

none_given : {A : Type 0} (r : Report A) → Gives (λ a. ⊥) r → unnumbered r ≡ refused 0
none_given (refused n) none = refl
none_given (gives a) none = absurd (none a refl)

small_twice : (a i b j : ℕ) (l : Line) → unnumbered (add_small a i l then add_small b j) ≡ refused 0
small_twice a i b j l =
    none_given _ (then_such (λ u. ⊥) (add_small a i l) (add_small b j) (λ m gave. none_again b j m (first_given a i l m gave)))

-- ---- declarations

species_part : (id : ℕ) (x : Species)
    → Part (λ s. when s.ended 5 (declaring id x (declared id s) (gives (set s.species id (Some x))))) (λ l s. with_tables s l s.factors) (declare id x)
unfolding declare
species_part id x = record { is = λ s. search thens depth 8 }

factor_part : (cm x : ℕ)
    → Part (λ s. when s.ended 5 (giving cm x (is_some (factor_at s.factors cm)) (gives (set s.factors cm (Some x))))) (λ l s. with_tables s s.species l)
    (give_factor cm x)
unfolding give_factor
factor_part cm x = record { is = λ s. search thens depth 8 }

-- ---- by command

-- the commands that are exchanged
pub data OfLine : Command → Type 0 where
  measured : (class count : ℕ) → OfLine (Command.Measured class count)
  height : (cm tenths : ℕ) → OfLine (Command.Height cm tenths)
  small : (carbon count : ℕ) → OfLine (Command.Small carbon count)

-- what each makes of the open line
abbrev note_of : {c : Command} → OfLine c → Line → Report Line
note_of (measured class count) = note_measured class count
note_of (height cm tenths) = note_height cm tenths
note_of (small carbon count) = add_small carbon count

as_noted : {c : Command} (m : OfLine c) (s : Survey) → on_line (note_of m) s ≡ as_written c s
unfolding measure give_height give_small
as_noted (measured class count) s = when_same s.ended 5 _ _ (λ not_ended. given_same s.line 10 _ _ (λ l is_open. search thens depth 14))
as_noted (height cm tenths) s = when_same s.ended 5 _ _ (λ not_ended. given_same s.line 10 _ _ (λ l is_open. search thens depth 14))
as_noted (small carbon count) s = refl

-- two of a line, of one kind
line_exchange : {a b : Command} (m : OfLine a) (n : OfLine b) → Exchanges (note_of m) (note_of n)
line_exchange (measured a i) (measured b j) =
    within (measured_note a i) (measured_note b j) (λ x l. refl) (λ x l. refl) counts_either
line_exchange (height a i) (height b j) =
    within (height_note a i) (height_note b j) (λ x l. refl) (λ x l. refl) tariffs_either
line_exchange (small a i) (small b j) = λ l. small_twice a i b j l ∙ sym (small_twice b j a i l)
-- and of two: neither looks at what the other adds to
line_exchange (measured a i) (height b j) = beside (measured_note a i).part (height_note b j).part (λ x l. refl) (λ y l. refl) (λ x y l. refl)
line_exchange (measured a i) (small b j) = beside (measured_note a i).part (small_part_lem b j) (λ x l. refl) (λ y l. refl) (λ x y l. refl)
line_exchange (height a i) (measured b j) = beside (height_note a i).part (measured_note b j).part (λ x l. refl) (λ y l. refl) (λ x y l. refl)
line_exchange (height a i) (small b j) = beside (height_note a i).part (small_part_lem b j) (λ x l. refl) (λ y l. refl) (λ x y l. refl)
line_exchange (small a i) (measured b j) = beside (small_part_lem a i) (measured_note b j).part (λ x l. refl) (λ y l. refl) (λ x y l. refl)
line_exchange (small a i) (height b j) = beside (small_part_lem a i) (height_note b j).part (λ x l. refl) (λ y l. refl) (λ x y l. refl)

kind_exchange : {a b : Command} → OfLine a → OfLine b → Exchanges (as_written a) (as_written b)
kind_exchange m n = exchanges_same (as_noted m) (as_noted n) (of_open_line (note_of m) (note_of n) (line_exchange m n))

-- one of a line and a declaration, which looks at its own table
species_exchange : {a : Command} → OfLine a → (id : ℕ) (x : Species) → Exchanges (as_written a) (declare id x)
species_exchange m id x =
    exchanges_same (as_noted m) (λ s. refl) (beside (line_part (note_of m)) (species_part id x) (λ y s. refl) (λ l s. refl) (λ y l s. refl))

factor_exchange : {a : Command} → OfLine a → (cm x : ℕ) → Exchanges (as_written a) (give_factor cm x)
factor_exchange m cm x =
    exchanges_same (as_noted m) (λ s. refl) (beside (line_part (note_of m)) (factor_part cm x) (λ y s. refl) (λ l s. refl) (λ y l s. refl))

-- and so any neighbour that does not part
neighbour_exchange : {a : Command} → OfLine a → (b : Command) → parts b ≡ false → Exchanges (as_written a) (as_written b)
neighbour_exchange m (Command.Measured class count) e = kind_exchange m (measured class count)
neighbour_exchange m (Command.Height cm tenths) e = kind_exchange m (height cm tenths)
neighbour_exchange m (Command.Small carbon count) e = kind_exchange m (small carbon count)
neighbour_exchange m (Command.Species id x) e = species_exchange m id x
neighbour_exchange m (Command.Factor cm x) e = factor_exchange m cm x
neighbour_exchange m (Command.Open stratum id p q) e = absurd (true≢false e)
neighbour_exchange m Command.Close e = absurd (true≢false e)
neighbour_exchange m Command.End e = absurd (true≢false e)

pub of_line_lem : (c : Command) → of_line c ≡ true → OfLine c
of_line_lem (Command.Measured class count) e = measured class count
of_line_lem (Command.Height cm tenths) e = height cm tenths
of_line_lem (Command.Small carbon count) e = small carbon count
of_line_lem (Command.Species id x) e = absurd (true≢false (sym e))
of_line_lem (Command.Factor cm x) e = absurd (true≢false (sym e))
of_line_lem (Command.Open stratum id p q) e = absurd (true≢false (sym e))
of_line_lem Command.Close e = absurd (true≢false (sym e))
of_line_lem Command.End e = absurd (true≢false (sym e))

pub exchanged : (a b : Command) → of_line a ≡ true → parts b ≡ false → Exchanges (as_written a) (as_written b)
exchanged a b is_of_line parts_not = neighbour_exchange (of_line_lem a is_of_line) b parts_not
