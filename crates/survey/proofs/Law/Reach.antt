-- How far a book reads from a place on: to the first place where reading is refused, which it is with 1 at the end and past it, and nowhere else. The
-- bytes up to there are the encoding of the commands, whose operands fit; where that is the end, reading the whole book answers these commands, and
-- else the refusal. The encoding of a list of commands that fit reads to its end, as that list. What is reached from a place hangs on what is read
-- there, and each command that is read moves on within the book (Law.RoundTrip: read_moves).
use Prim.Native.Nat.{ℕ, zero, suc, ◌+◌, ◌≤◌, ◌<◌}
use Rattle.std.proofs.Common.{lt_of_not-le, arith, ◌∙◌, length-append, le-leb, ltb-false, ne_eqb}
use Rattle.std.proofs.Math.Decide.{dec_le}
use Rattle.std.specs.Prelude.{◌≡◌, Bool, true, false, cond, List, [], ◌∷◌, length, leb, ltb, eqb}
use Rattle.std.proofs.Math.Path.{refl, sym, ap, subst}
use Rattle.std.proofs.lemmas.Bool.{lt-leb}
use Rattle.biomass.specs.Report.{Report, refused, gives, ◌then◌}
use Rattle.biomass.proofs.Law.Gives.{number_is}
use Rattle.biomass.proofs.Law.Declines.{Declines, gives_declines, unless_declines, cond_declines}
use Rattle.codec.specs.Bytes.{byte, AllBytes}
use Rattle.codec.specs.Command.{encode, Fits}
use Rattle.codec.specs.Reading.{with_operands, species_from, factor_from, open_from, measured_from, height_from, small_from, command_from, read}
use Rattle.survey.specs.Reader.{encode_all, read_up_to, read_all, Reach, stops_at, in_front, by_read, reach_up_to, reach}
use Rattle.codec.proofs.Law.Bytes.{Stands, nothing, stands_at, stands_first, stands_second, stands_append, taken_stands, stands_itself}
use Rattle.codec.proofs.Law.RoundTrip.{read_at_end, read_encoded, read_is_encoded, read_moves}
use Rattle.codec.specs.declared.command.Command.{Command}
use Rattle.codec.specs.declared.command.Command.TheVariants.{Close, End}

-- ---- what reading is refused with

-- 1 is told at the end alone, and reading has no other number but 2 and 3
module _ (such : ℕ → Type 0) (s : List ℕ) (two : such 2) (three : such 3) where
  with_operands_declines : (from width : ℕ) (c : Command) → Declines such (with_operands s from width c)
  with_operands_declines from width c =
      unless_declines such (leb (from + width) (length s)) 3 _ (λ short. three) (λ fits. gives_declines such (c, from + width))

  pub read_declines : (at : ℕ) → (length s ≤ at → such 1) → Declines such (read s at)
  unfolding read command_from species_from factor_from open_from measured_from height_from small_from
  read_declines at one =
      let b = byte s at in
      unless_declines such (ltb at (length s)) 1 _ (λ out. one (ltb-false at (length s) out)) (λ inside.
      cond_declines such (eqb b 1) _ _ (with_operands_declines (at + 1) 20 _)
      (cond_declines such (eqb b 2) _ _ (with_operands_declines (at + 1) 2 _)
      (cond_declines such (eqb b 3) _ _ (with_operands_declines (at + 1) 10 _)
      (cond_declines such (eqb b 4) _ _ (with_operands_declines (at + 1) 3 _)
      (cond_declines such (eqb b 5) _ _ (with_operands_declines (at + 1) 3 _)
      (cond_declines such (eqb b 6) _ _ (gives_declines such (Close, at + 1))
      (cond_declines such (eqb b 7) _ _ (gives_declines such (End, at + 1))
      (cond_declines such (eqb b 8) _ _ (with_operands_declines (at + 1) 8 _)
      (λ n e. subst such (number_is e) two)))))))))

-- with 1 only at the end and past it
pub one_only_at_end : (s : List ℕ) (at n : ℕ) → read s at ≡ refused n → n ≡ 1 → length s ≤ at
one_only_at_end s at =
    read_declines (λ n. n ≡ 1 → length s ≤ at) s (λ two. absurd (omega arith)) (λ three. absurd (omega arith)) at (λ none_left one. none_left)

-- ---- how reading goes on from a place

-- What holds of each refusal that is read, at its place, and of each command that is read, if it holds of what comes after, holds of what is reached
-- from any place
module _ (s : List ℕ) (P : ℕ → Reach → Type 0)
    (stops : (at n : ℕ) → read s at ≡ refused n → P at (stops_at n at))
    (goes_on : (at : ℕ) (c : Command) (next : ℕ) (r : Reach) → read s at ≡ gives (c, next) → P next r → P at (in_front c r)) where
  by_read_lem : (at : ℕ) (r : Report (Command × ℕ)) (rest : ℕ → Reach) → read s at ≡ r
      → ((c : Command) (next : ℕ) → r ≡ gives (c, next) → P next (rest next)) → P at (by_read at r rest)
  by_read_lem at (refused n) rest e after = stops at n e
  by_read_lem at (gives (c, next)) rest e after = goes_on at c next (rest next) e (after c next refl)

  up_to_by : (most at : ℕ) → length s ≤ at + most → P at (reach_up_to most s at)
  unfolding reach_up_to
  up_to_by zero at left = stops at 1 (read_at_end s at (omega arith))
  up_to_by (suc most) at left =
      by_read_lem at (read s at) (reach_up_to most s) refl λ c next e. up_to_by most next (omega (arith, (read_moves s at c next e).0))

  pub reach_by : (from : ℕ) → P from (reach s from)
  unfolding reach
  reach_by from = up_to_by (length s) from (omega arith)

-- any number of commands not below that of the bytes left is enough, since each takes a byte at least
pub reach_enough : (s : List ℕ) (at most : ℕ) → length s ≤ at + most → reach_up_to most s at ≡ reach s at
unfolding reach_up_to
reach_enough s = reach_by s (λ at r. (most : ℕ) → length s ≤ at + most → reach_up_to most s at ≡ r) stops goes_on
  where
    stops : (at n : ℕ) → read s at ≡ refused n → (most : ℕ) → length s ≤ at + most → reach_up_to most s at ≡ stops_at n at
    stops at n e zero h = ap (λ (n : ℕ). stops_at n at) (number_is (sym (read_at_end s at (omega arith)) ∙ e))
    stops at n e (suc most) h = rw e

    goes_on : (at : ℕ) (c : Command) (next : ℕ) (r : Reach) → read s at ≡ gives (c, next)
        → ((most : ℕ) → length s ≤ next + most → reach_up_to most s next ≡ r)
        → (most : ℕ) → length s ≤ at + most → reach_up_to most s at ≡ in_front c r
    goes_on at c next r e rest zero h = let moves = read_moves s at c next e in absurd (omega arith)
    goes_on at c next r e rest (suc most) h =
        let moves = read_moves s at c next e in
        rw e (ap (in_front c) (rest most (omega arith)))

module _ (s : List ℕ) (at : ℕ) where
  -- it hangs on what is read at the place
  reach_is : {r : Report (Command × ℕ)} → read s at ≡ r → reach s at ≡ by_read at r (reach s)
  unfolding reach reach_up_to
  reach_is e = sym (reach_enough s at (suc (length s)) (omega arith)) ∙ ap (λ (r : Report (Command × ℕ)). by_read at r (reach s)) e

  -- a refusal stops it, at its place
  pub reach_refused : (n : ℕ) → read s at ≡ refused n → reach s at ≡ stops_at n at
  reach_refused n e = reach_is e

  -- and after a command it goes on
  pub reach_on : (c : Command) (next : ℕ) → read s at ≡ gives (c, next) → reach s at ≡ in_front c (reach s next)
  reach_on c next e = reach_is e

-- ---- where reading stops

module _ (s : List ℕ) (from : ℕ) where
  -- it is refused there, with the number
  pub stops_there : read s (reach s from).at ≡ refused (reach s from).why
  stops_there = reach_by s (λ at r. read s r.at ≡ refused r.why) (λ at n e. e) (λ at c next r e h. h) from

  -- from a place in the book or at its end on, it stops in the book or at its end,
  pub stop_in_book : from ≤ length s → (reach s from).at ≤ length s
  stop_in_book =
      reach_by s (λ at r. at ≤ length s → r.at ≤ length s) (λ at n e inside. inside) (λ at c next r e h inside. h (read_moves s at c next e).1) from

  -- and at its end where the number is 1
  pub stops_at_end : from ≤ length s → (reach s from).why ≡ 1 → (reach s from).at ≡ length s
  stops_at_end inside one =
      let below = stop_in_book inside in
      let above = one_only_at_end s (reach s from).at (reach s from).why stops_there one in
      omega arith

  -- at the end the number is no other
  pub one_at_end : (reach s from).at ≡ length s → (reach s from).why ≡ 1
  one_at_end ends = number_is (sym stops_there ∙ read_at_end s (reach s from).at (omega arith))

-- ---- what was read up to there

-- the operands of each command fit their bytes
pub data AllFit : List Command → Type 0 where
  none : AllFit []
  and_next : {c : Command} {cs : List Command} → Fits c → AllFit cs → AllFit (c ∷ cs)

-- The bytes from the place on to the stop are those of the commands
pub record ReachIsEncoded (s : List ℕ) (from : ℕ) (r : Reach) : Type 0 where
  pub fit : AllFit r.commands
  pub stands : Stands (encode_all r.commands) s from
  pub stop_is : r.at ≡ from + length (encode_all r.commands)

pub reach_encoded : (s : List ℕ) (from : ℕ) → AllBytes s → ReachIsEncoded s from (reach s from)
unfolding encode_all
reach_encoded s from all =
    reach_by s (ReachIsEncoded s) (λ at n e. record { fit = none; stands = nothing; stop_is = omega arith }) (λ at c next r e rest.
    let first = read_is_encoded s at next c all e in
    let inside : at ≤ length s = omega (arith, first.next_is, first.inside) in
    record {
      fit = and_next first.fits rest.fit;
      stands = stands_append (taken_stands (encode c) s at inside first.encoded_there) (stands_at rest.stands first.next_is);
      stop_is = omega (arith, rest.stop_is, first.next_is, length-append (encode c) (encode_all r.commands));
    }) from

-- ---- reading the whole book

-- the commands where the number is 1, that of the end, and else the refusal
abbrev throughout : Reach → Report (List Command)
throughout r = cond (eqb r.why 1) (gives r.commands) (refused r.why)

-- a command in front of either
throughout_front : (c : Command) (r : Reach) → (throughout r then λ cs. gives (c ∷ cs)) ≡ throughout (in_front c r)
throughout_front c r = by_end (eqb r.why 1)
  where
    by_end : (end : Bool) → (cond end (gives r.commands) (refused r.why) then λ cs. gives (c ∷ cs))
        ≡ cond end (gives (c ∷ r.commands)) (refused r.why)
    by_end true = refl
    by_end false = refl

-- before the end, where no refusal has the number 1
reads_one : (s : List ℕ) (at : ℕ) (r : Report (Command × ℕ)) (after : ℕ → Report (List Command)) (rest : ℕ → Reach)
    → ((next : ℕ) → after next ≡ throughout (rest next)) → at < length s → read s at ≡ r
    → (r then λ x. after x.1 then λ cs. gives (x.0 ∷ cs)) ≡ throughout (by_read at r rest)
reads_one s at (refused n) after rest same inside e = rw (ne_eqb n 1 λ one. absurd (omega (arith, one_only_at_end s at n e one)))
reads_one s at (gives (c, next)) after rest same inside e =
    ap (λ (r : Report (List Command)). r then λ cs. gives (c ∷ cs)) (same next) ∙ throughout_front c (rest next)

reads_up_to : (most : ℕ) (s : List ℕ) (at : ℕ) → read_up_to most s at ≡ throughout (reach_up_to most s at)
unfolding read_up_to reach_up_to
reads_up_to zero s at = refl
reads_up_to (suc most) s at =
    elim (dec_le (length s) at) [
      | yes none_left ↦ rw (le-leb, read_at_end s at none_left)
      | no some_left ↦
          let inside : at < length s = lt_of_not-le some_left in
          rw lt-leb (reads_one s at (read s at) (read_up_to most s) (reach_up_to most s) (reads_up_to most s) inside refl)
    ]

-- Reading the whole book answers the commands that are reached where the number is 1, which is just where it stops at the end of the book
-- (stops_at_end, one_at_end), and else is refused with the number
pub read_all_reach : (s : List ℕ) → read_all s ≡ cond (eqb (reach s 0).why 1) (gives (reach s 0).commands) (refused (reach s 0).why)
unfolding read_all reach
read_all_reach s = reads_up_to (length s) s 0

-- ---- the bytes of a list of commands

-- from any place on to the end
reaches_encoded : (s : List ℕ) (at : ℕ) (cs : List Command) → AllFit cs → Stands (encode_all cs) s at → at + length (encode_all cs) ≡ length s
    → reach s at ≡ record { commands = cs; at = length s; why = 1 }
unfolding encode_all
reaches_encoded s at cs none h ends =
    reach_refused s at 1 (read_at_end s at (omega arith)) ∙ ap (λ (end : ℕ). stops_at 1 end) (omega arith)
reaches_encoded s at cs (and_next {c} {cs = rest} f fs) h ends =
    let both = length-append (encode c) (encode_all rest) in
    let after = at + length (encode c) in
    let first : read s at ≡ gives (c, after) = read_encoded s at c f (stands_first (encode c) (encode_all rest) h) (omega arith) in
    reach_on s at c after first ∙ ap (in_front c) (reaches_encoded s after rest fs (stands_second (encode c) (encode_all rest) h) (omega arith))

-- all of them are reached, and the end of the book
pub reach_of_list : (cs : List Command) → AllFit cs → reach (encode_all cs) 0 ≡ record { commands = cs; at = length (encode_all cs); why = 1 }
reach_of_list cs fs = let s = encode_all cs in reaches_encoded s 0 cs fs (stands_itself s) (omega arith)
