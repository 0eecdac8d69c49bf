-- The two ways to say that books differ only in the order of a line's commands are the same: what is exchanged with its neighbour stays in its line, and commands that
-- are the same line by line are brought into each other's order by such exchanges.
use Prim.Native.Nat.{ℕ, zero, suc, ◌+◌, ◌≤◌}
use native.Mathlib.Omega.{arith}
use Rattle.std.specs.Prelude.{◌≡◌, refl, Bool, eqb}
use Rattle.std.proofs.Common.{◌∙◌, sym, ap₂, subst, subst₂, eqb-true, eq-eqb}
use Rattle.std.proofs.Math.Path.{ap}
use Rattle.std.proofs.Math.Bool.{true, false, cond}
use mathlib.Core.List.{List, [], ◌∷◌, ◌++◌, append-nil}
use Rattle.biomass.proofs.Law.Report.{both_true}
use Rattle.codec.specs.declared.command.Command.{Command}
use Rattle.order.specs.Order.{of_line, parts, others, in_stretch, how_many, SameBag, SameLines, Reordered, as_it_was, exchange, back, and_then}
use Rattle.order.proofs.Law.Exchange.{OfLine, measured, height, small, of_line_lem}

-- ---- by exchanges, and so line by line

-- a line's command does not part
line_parts_not : (a : Command) → of_line a ≡ true → parts a ≡ false
line_parts_not a e = by_kind (of_line_lem a e)
  where
    by_kind : {c : Command} → OfLine c → parts c ≡ false
    by_kind (measured class count) = refl
    by_kind (height cm tenths) = refl
    by_kind (small carbon count) = refl

same_bag : (cs : List Command) → SameBag cs cs
same_bag cs = record { as_many = λ such. refl }

same_either : (test : Bool) {cs ds es fs : List Command} → SameBag cs ds → SameBag es fs → SameBag (cond test cs es) (cond test ds fs)
same_either true same same' = same
same_either false same same' = same'

same_after : (c : Command) {cs ds : List Command} → SameBag cs ds → SameBag (c ∷ cs) (c ∷ ds)
unfolding how_many
same_after c same = record { as_many = λ such. ap (λ n. cond (such c) 1 0 + n) (same.as_many such) }

module _ (a b : Command) (after : List Command) (is_of_line : of_line a ≡ true) (parts_not : parts b ≡ false) where
  exchange_others : (before : List Command) → others (before ++ a ∷ b ∷ after) ≡ others (before ++ b ∷ a ∷ after)
  unfolding others
  exchange_others [] = simp is_of_line
  exchange_others (c ∷ before) = ap (λ rest. cond (of_line c) rest (c ∷ rest)) (exchange_others before)

  -- the two together, in the stretch in which they stand
  exchange_bag : (cs : List Command) (another : Bool) → SameBag (a ∷ cond another (b ∷ cs) cs) (cond another (b ∷ a ∷ cs) (a ∷ cs))
  unfolding how_many
  exchange_bag cs true = record { as_many = λ such. omega arith }
  exchange_bag cs false = same_bag (a ∷ cs)

  exchange_stretches : (before : List Command) (i : ℕ) → SameBag (in_stretch i (before ++ a ∷ b ∷ after)) (in_stretch i (before ++ b ∷ a ∷ after))
  unfolding in_stretch
  exchange_stretches [] zero = simp (line_parts_not a is_of_line, parts_not, is_of_line) (exchange_bag (in_stretch zero after) (of_line b))
  exchange_stretches [] (suc i) = simp (line_parts_not a is_of_line, parts_not) (same_bag (in_stretch (suc i) after))
  exchange_stretches (c ∷ before) zero =
      let rest = exchange_stretches before zero in
      same_either (parts c) (same_bag []) (same_either (of_line c) (same_after c rest) rest)
  exchange_stretches (c ∷ before) (suc i) = same_either (parts c) (exchange_stretches before i) (exchange_stretches before (suc i))

pub reordered_lines : {cs ds : List Command} → Reordered cs ds → SameLines cs ds
reordered_lines (as_it_was cs) = record { same_others = refl; same_stretches = λ i. same_bag (in_stretch i cs) }
reordered_lines (exchange before a b after is_of_line parts_not) =
    record { same_others = exchange_others a b after is_of_line parts_not before; same_stretches = exchange_stretches a b after is_of_line parts_not before }
reordered_lines (back r) =
    let same = reordered_lines r in
    record { same_others = sym same.same_others; same_stretches = λ i. record { as_many = λ such. sym ((same.same_stretches i).as_many such) } }
reordered_lines (and_then r q) =
    let same = reordered_lines r in
    let next = reordered_lines q in
    record {
      same_others = same.same_others ∙ next.same_others;
      same_stretches = λ i. record { as_many = λ such. (same.same_stretches i).as_many such ∙ (next.same_stretches i).as_many such };
    }

-- ---- line by line, and so by exchanges

equal_lists : {cs ds : List Command} → cs ≡ ds → Reordered cs ds
equal_lists {cs} e = subst (Reordered cs) e (as_it_was cs)

-- what is reordered after the same commands
after_one : (c : Command) {cs ds : List Command} → Reordered cs ds → Reordered (c ∷ cs) (c ∷ ds)
after_one c (as_it_was cs) = as_it_was (c ∷ cs)
after_one c (exchange before a b after is_of_line parts_not) = exchange (c ∷ before) a b after is_of_line parts_not
after_one c (back r) = back (after_one c r)
after_one c (and_then r q) = and_then (after_one c r) (after_one c q)

after_all : (before : List Command) {cs ds : List Command} → Reordered cs ds → Reordered (before ++ cs) (before ++ ds)
after_all [] r = r
after_all (c ∷ before) r = after_one c (after_all before r)

-- A line's command by its byte and its operands, from which it is known again
abbrev figures : Command → ℕ × ℕ × ℕ
figures (Command.Measured class count) = (4, class, count)
figures (Command.Height cm tenths) = (5, cm, tenths)
figures (Command.Small carbon count) = (8, carbon, count)
figures (Command.Species id x) = (0, 0, 0)
figures (Command.Factor cm x) = (0, 0, 0)
figures (Command.Open stratum id p q) = (0, 0, 0)
figures Command.Close = (0, 0, 0)
figures Command.End = (0, 0, 0)

abbrev with_figures : ℕ × ℕ × ℕ → Command
with_figures (byte, a, b) = cond (eqb byte 4) (Command.Measured a b) (cond (eqb byte 5) (Command.Height a b) (Command.Small a b))

known_again : {c : Command} → OfLine c → with_figures (figures c) ≡ c
known_again (measured class count) = refl
known_again (height cm tenths) = refl
known_again (small carbon count) = refl

abbrev equal : ℕ × ℕ × ℕ → ℕ × ℕ × ℕ → Bool
equal (x, a, b) (y, c, d) = cond (eqb x y) (cond (eqb a c) (eqb b d) false) false

equal_self : (f : ℕ × ℕ × ℕ) → equal f f ≡ true
equal_self (x, a, b) = simp (eq-eqb x x refl, eq-eqb a a refl, eq-eqb b b refl)

equal_true : (f g : ℕ × ℕ × ℕ) → equal f g ≡ true → f ≡ g
equal_true (x, a, b) (y, c, d) e =
    let first = both_true (eqb x y) (cond (eqb a c) (eqb b d) false) e in
    let second = both_true (eqb a c) (eqb b d) first.1 in
    let byte = eqb-true x y first.0 in
    let operand = eqb-true a c second.0 in
    let other = eqb-true b d second.1 in
    cc

-- whether two are the same command, of those of a line
abbrev alike : Command → Command → Bool
alike c d = equal (figures c) (figures d)

alike_one : (c d : Command) → of_line c ≡ true → of_line d ≡ true → alike c d ≡ true → c ≡ d
alike_one c d is_of_line is_of_line' e =
    sym (known_again (of_line_lem c is_of_line)) ∙ ap with_figures (equal_true (figures c) (figures d) e) ∙ known_again (of_line_lem d is_of_line')

-- all of them of a line
data AllOfLine : List Command → Type 0 where
  none : AllOfLine []
  and_next : (c : Command) {cs : List Command} → of_line c ≡ true → AllOfLine cs → AllOfLine (c ∷ cs)

-- A command that is among others of a line is brought to their front
record Brought (c : Command) (cs : List Command) : Type 0 where
  left : List Command
  all : AllOfLine left
  same : SameBag (c ∷ left) cs
  moved : (rest : List Command) → Reordered (c ∷ left ++ rest) (cs ++ rest)

bring : (c : Command) {cs : List Command} → of_line c ≡ true → AllOfLine cs → 1 ≤ how_many (alike c) cs → Brought c cs
unfolding how_many
bring c is_of_line none some = absurd (omega arith)
bring c is_of_line (and_next d {cs = rest} next all) some = by_first (alike c d) refl some (bring c is_of_line all)
  where
    by_first : (this : Bool) → alike c d ≡ this → 1 ≤ cond this 1 0 + how_many (alike c) rest → (1 ≤ how_many (alike c) rest → Brought c rest) → Brought c (d ∷ rest)
    by_first true e some bring_on =
        subst (λ (x : Command). Brought c (x ∷ rest)) (alike_one c d is_of_line next e)
        (record { left = rest; all = all; same = same_bag (c ∷ rest); moved = λ after. as_it_was (c ∷ rest ++ after) })
    by_first false e some bring_on =
        let later = bring_on (omega (arith, some)) in
        record {
          left = d ∷ later.left;
          all = and_next d next later.all;
          same = record { as_many = λ such. omega (arith, later.same.as_many such) };
          moved = λ after. and_then (exchange [] c d (later.left ++ after) is_of_line (line_parts_not d next)) (after_one d (later.moved after));
        }

-- so what is the same in any order is brought into the other's order
none_left : (cs : List Command) → SameBag [] cs → [] ≡ cs
unfolding how_many
none_left [] same = refl
none_left (c ∷ cs) same = absurd (omega (arith, same.as_many (λ d. true)))

any_order : {cs ds : List Command} → AllOfLine cs → AllOfLine ds → SameBag cs ds → (rest : List Command) → Reordered (cs ++ rest) (ds ++ rest)
unfolding how_many
any_order {ds = ds} none all same rest = equal_lists (ap (λ (l : List Command). l ++ rest) (none_left ds same))
any_order (and_next c {cs = cs} is_of_line all) all' same rest =
    let itself = ap (λ (this : Bool). cond this 1 0 + how_many (alike c) cs) (equal_self (figures c)) in
    let first = bring c is_of_line all' (omega (arith, itself, same.as_many (alike c))) in
    let left : SameBag cs first.left = record { as_many = λ such. omega (arith, same.as_many such, first.same.as_many such) } in
    and_then (after_one c (any_order all first.all left rest)) (first.moved rest)

-- Commands put in order: between two that part, the declarations and then those of a line. g has the line's commands of each stretch
unfoldable in_order : (ℕ → List Command) → List Command → List Command
in_order g [] = g 0
in_order g (c ∷ cs) = cond (parts c) (g 0 ++ c ∷ in_order (λ i. g (suc i)) cs) (c ∷ in_order g cs)

in_order_same : (g h : ℕ → List Command) → ((i : ℕ) → g i ≡ h i) → (cs : List Command) → in_order g cs ≡ in_order h cs
unfolding in_order
in_order_same g h same [] = same 0
in_order_same g h same (c ∷ cs) =
    ap₂ (λ (inside past : List Command). cond (parts c) inside past)
    (ap₂ (λ (first rest : List Command). first ++ c ∷ rest) (same 0) (in_order_same (λ i. g (suc i)) (λ i. h (suc i)) (λ i. same (suc i)) cs))
    (ap (λ rest. c ∷ rest) (in_order_same g h same cs))

-- one of a line in front of all goes where the others of its stretch are
to_its_place : (a : Command) → of_line a ≡ true → (g h : ℕ → List Command) → a ∷ g 0 ≡ h 0 → ((i : ℕ) → g (suc i) ≡ h (suc i)) → (cs : List Command)
    → Reordered (a ∷ in_order g cs) (in_order h cs)
unfolding in_order
to_its_place a is_of_line g h first later [] = equal_lists first
to_its_place a is_of_line g h first later (c ∷ cs) = by_parting (parts c) refl (to_its_place a is_of_line g h first later cs)
  where
    by_parting : (parting : Bool) → parts c ≡ parting → Reordered (a ∷ in_order g cs) (in_order h cs)
        → Reordered (a ∷ cond parting (g 0 ++ c ∷ in_order (λ i. g (suc i)) cs) (c ∷ in_order g cs))
        (cond parting (h 0 ++ c ∷ in_order (λ i. h (suc i)) cs) (c ∷ in_order h cs))
    by_parting true e r =
        equal_lists (ap₂ (λ (l rest : List Command). l ++ c ∷ rest) first (in_order_same (λ i. g (suc i)) (λ i. h (suc i)) later cs))
    by_parting false e r = and_then (exchange [] a c (in_order g cs) is_of_line e) (after_one c r)

-- one that parts begins the next stretch, and a declaration goes on with this one
begins : (c : Command) → parts c ≡ true → (cs : List Command) (g h : ℕ → List Command) → [] ≡ h 0 → ((i : ℕ) → g i ≡ h (suc i)) → c ∷ in_order g cs ≡ in_order h (c ∷ cs)
unfolding in_order
begins c parting cs g h none_before same =
    simp parting (ap₂ (λ (l rest : List Command). l ++ c ∷ rest) none_before (in_order_same g (λ i. h (suc i)) same cs))

goes_on : (c : Command) → parts c ≡ false → (cs : List Command) (g h : ℕ → List Command) → ((i : ℕ) → g i ≡ h i) → c ∷ in_order g cs ≡ in_order h (c ∷ cs)
unfolding in_order
goes_on c parting cs g h same = simp parting (ap (λ rest. c ∷ rest) (in_order_same g h same cs))

-- any commands are brought into that order
in_order_lem : (cs : List Command) → Reordered cs (in_order (λ i. in_stretch i cs) (others cs))
unfolding in_order in_stretch others
in_order_lem [] = as_it_was []
in_order_lem (c ∷ cs) = by_sort (of_line c) (parts c) refl refl (in_order_lem cs)
  where
    before : ℕ → List Command
    before i = in_stretch i cs

    now : ℕ → List Command
    now i = in_stretch i (c ∷ cs)

    same_stretch : of_line c ≡ false → parts c ≡ false → (i : ℕ) → before i ≡ now i
    same_stretch e parting zero = simp (parting, e)
    same_stretch e parting (suc i) = simp parting

    by_sort : (of_line_lem part : Bool) → of_line c ≡ of_line_lem → parts c ≡ part → Reordered cs (in_order (λ i. in_stretch i cs) (others cs))
        → Reordered (c ∷ cs) (in_order (λ i. in_stretch i (c ∷ cs)) (cond of_line_lem (others cs) (c ∷ others cs)))
    by_sort true part e parting r =
        let inside = line_parts_not c e in
        and_then (after_one c r) (to_its_place c e before now (simp (inside, e)) (λ i. simp inside) (others cs))
    by_sort false true e parting r =
        and_then (after_one c r) (equal_lists (begins c parting (others cs) before now (simp parting) (λ i. simp parting)))
    by_sort false false e parting r = and_then (after_one c r) (equal_lists (goes_on c parting (others cs) before now (same_stretch e parting)))

-- and those of the same lines into the same
stretches_reordered : (cs : List Command) (g h : ℕ → List Command) → ((i : ℕ) → AllOfLine (g i)) → ((i : ℕ) → AllOfLine (h i)) → ((i : ℕ) → SameBag (g i) (h i))
    → Reordered (in_order g cs) (in_order h cs)
unfolding in_order
stretches_reordered [] g h all all' same = subst₂ Reordered (append-nil (g 0)) (append-nil (h 0)) (any_order (all 0) (all' 0) (same 0) [])
stretches_reordered (c ∷ cs) g h all all' same =
    by_parting (parts c) (stretches_reordered cs g h all all' same)
    (stretches_reordered cs (λ i. g (suc i)) (λ i. h (suc i)) (λ i. all (suc i)) (λ i. all' (suc i)) (λ i. same (suc i)))
  where
    by_parting : (parting : Bool) → Reordered (in_order g cs) (in_order h cs) → Reordered (in_order (λ i. g (suc i)) cs) (in_order (λ i. h (suc i)) cs)
        → Reordered (cond parting (g 0 ++ c ∷ in_order (λ i. g (suc i)) cs) (c ∷ in_order g cs))
        (cond parting (h 0 ++ c ∷ in_order (λ i. h (suc i)) cs) (c ∷ in_order h cs))
    by_parting true r next = and_then (any_order (all 0) (all' 0) (same 0) (c ∷ in_order (λ i. g (suc i)) cs)) (after_all (h 0) (after_one c next))
    by_parting false r next = after_one c r

-- what stands in a stretch is of a line
all_of_line : (cs : List Command) (i : ℕ) → AllOfLine (in_stretch i cs)
unfolding in_stretch
all_of_line [] i = none
all_of_line (c ∷ cs) zero = by_sort (parts c) (of_line c) refl (all_of_line cs zero)
  where
    by_sort : (parting of_line_lem : Bool) → of_line c ≡ of_line_lem → AllOfLine (in_stretch zero cs)
        → AllOfLine (cond parting [] (cond of_line_lem (c ∷ in_stretch zero cs) (in_stretch zero cs)))
    by_sort true of_line_lem e all = none
    by_sort false true e all = and_next c e all
    by_sort false false e all = all
all_of_line (c ∷ cs) (suc i) = by_parting (parts c) (all_of_line cs i) (all_of_line cs (suc i))
  where
    by_parting : (parting : Bool) → AllOfLine (in_stretch i cs) → AllOfLine (in_stretch (suc i) cs) → AllOfLine (cond parting (in_stretch i cs) (in_stretch (suc i) cs))
    by_parting true here next = here
    by_parting false here next = next

-- so each is brought into the order of both
pub lines_reordered : {cs ds : List Command} → SameLines cs ds → Reordered cs ds
lines_reordered {cs} {ds} same =
    and_then (in_order_lem cs)
    (and_then (stretches_reordered (others cs) _ _ (all_of_line cs) (all_of_line ds) same.same_stretches)
    (back (subst (λ (l : List Command). Reordered ds (in_order (λ i. in_stretch i ds) l)) (sym same.same_others) (in_order_lem ds))))
