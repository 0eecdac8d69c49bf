-- The rows of an accepted book are those of its closings, one after the other: each command that is taken leaves the rows as they stand, and a closing puts
-- the row of its open line after them (Law.Effect, Law.Closing). It is so of every list of commands, accepted or not, and the closings of a list's book are
-- the list's.
use Rattle.std.specs.Prelude.{ℕ, ◌<◌, length, ◌≡◌, refl, List, [], ◌∷◌, ◌++◌, map, Option, Some, option_map, option_to_list}
use Rattle.std.proofs.Common.{add-one, arith, ◌∙◌, sym, append_assoc, append-nil, take-suc-set}
use Rattle.std.proofs.Math.Path.{ap, subst}
use Rattle.std.proofs.lemmas.List.{map-append}
use Rattle.biomass.specs.Report.{Report, refused, gives, leaves}
use Rattle.survey.specs.Reader.{encode_all, Reach, reach}
use Rattle.survey.specs.Survey.{fresh, closing_row, rows_of, with_row}
use Rattle.survey.specs.AsWritten.{as_written}
use Rattle.survey.specs.Closings.{Closing, estimate_of, row_of_closing, of_open, closing, if_taken, closings, closings_of}
use Rattle.survey.specs.Apply.{apply, reached}
use Rattle.survey.specs.Valid.{Valid}
use Rattle.survey.specs.Playing.{ended, play_by}
use Rattle.survey.proofs.Law.AsWritten.{as_written_lem}
use Rattle.line.proofs.Law.Estimate.{Worked}
use Rattle.survey.proofs.Law.Closing.{closes_to}
use Rattle.survey.proofs.Law.Effect.{Effect, a_species, a_factor, the_line, a_row, effect}
use Rattle.survey.proofs.Law.Valid.{fresh_valid, after_valid}
use Rattle.survey.proofs.Law.Reach.{AllFit, reach_of_list}
use Rattle.survey.proofs.Law.Playing.{play_as_written, play_reaches}
use Rattle.codec.specs.declared.command.Command.{Command}
use Rattle.line.specs.declared.row.Row.{Row}
use Rattle.line.specs.declared.line.Line.{Line}
use Rattle.survey.specs.declared.survey.Survey.{Survey}

-- what is estimated of each of these closings' lines was worked
pub data AllClosed : List Closing → Type 0 where
  of_no_line : AllClosed []
  and_lines : (c : Closing) (cs : List Closing) → Worked (estimate_of c) → AllClosed cs → AllClosed (c ∷ cs)

-- the closings on the way from one survey to another
pub record Between (s t : Survey) (closes : List Closing) : Type 0 where
  pub rows : rows_of t ≡ rows_of s ++ map row_of_closing closes
  pub closed : AllClosed closes

-- ---- one command

-- what is changed but the rows leaves these alone
same_rows : {s t : Survey} → rows_of t ≡ rows_of s → Between s t []
same_rows {s} e = record { rows = e ∙ sym (append-nil (rows_of s)); closed = of_no_line }

-- a line that is open is the one that may close
abbrev with_its_factors : Survey → Line → Closing
with_its_factors s l = record { factors = s.factors; line = l }

open_is : (s : Survey) (l : Line) → s.line ≡ Some l → of_open s ≡ with_its_factors s l ∷ []
open_is s l = ap (λ (o : Option Line). option_to_list (option_map (with_its_factors s) o))

row_added : (s : Survey) (r : Row) → s.closed < length s.rows → rows_of (with_row s r) ≡ rows_of s ++ r ∷ []
row_added s r fits = rw add-one (take-suc-set s.rows s.closed r fits)

of_effect : {c : Command} {s t : Survey} {closes : List Closing} → Valid s → Effect c s t closes → Between s t closes
of_effect v (a_species g treeless) = same_rows refl
of_effect v (a_factor g treeless) = same_rows refl
of_effect v (the_line g) = same_rows refl
of_effect {s} v (a_row r e treeless) =
    let g = closes_to s _ v e in
    subst (Between s _) (sym (open_is s g.line g.is_open)) (record {
      rows = ap rows_of g.is ∙ row_added s (closing_row s.factors g.line) (omega (arith, v.places, g.room));
      closed = and_lines (record { factors = s.factors; line = g.line }) [] g.worked of_no_line;
    })

-- ---- commands one after the other

all_closed : {cs ds : List Closing} → AllClosed cs → AllClosed ds → AllClosed (cs ++ ds)
all_closed of_no_line k = k
all_closed (and_lines c cs w rest) k = and_lines c _ w (all_closed rest k)

one_then : {s t u : Survey} {cs ds : List Closing} → Between s t cs → Between t u ds → Between s u (cs ++ ds)
one_then {s} {cs} {ds} a b =
    record {
      rows =
          b.rows ∙ ap (λ (rs : List Row). rs ++ map row_of_closing ds) a.rows
          ∙ append_assoc (rows_of s) (map row_of_closing cs) (map row_of_closing ds)
          ∙ ap (λ (rs : List Row). rows_of s ++ rs) (sym (map-append row_of_closing cs ds));
      closed = all_closed a.closed b.closed;
    }

-- a command that is taken or refused
of_report : (c : Command) (s : Survey) (r : Report Survey) → Valid s → apply c s ≡ r → Between s (leaves s r).left (if_taken r (closing c s))
of_report c s (refused n) v e = same_rows {s = s} refl
of_report c s (gives t) v e = of_effect v (effect c s t e)

commands_between : (cs : List Command) (s : Survey) → Valid s → Between s (reached cs s) (closings cs s)
unfolding reached closings
commands_between [] s v = same_rows {s = s} refl
commands_between (c ∷ cs) s v =
    rw (← as_written_lem c s v)
    (one_then (of_report c s (apply c s) v refl) (commands_between cs (leaves s (apply c s)).left (after_valid c s v)))

-- ---- from a fresh survey on

-- whatever the commands, the rows of the survey that they reach are those of its closings, "in closing order"
pub rows_of_commands : (cs : List Command) → rows_of (reached cs fresh) ≡ map row_of_closing (closings cs fresh)
unfolding fresh
rows_of_commands cs = (commands_between cs fresh fresh_valid).rows

module _ (book : List ℕ) (t : Survey) (accepted : play_by as_written book ≡ ended t) where
  reads : reached (reach book 0).commands fresh ≡ t
  reads = play_reaches book t (play_as_written book ∙ accepted)

  -- and so are those of an accepted book
  pub rows_are : rows_of t ≡ map row_of_closing (closings_of book)
  unfolding closings_of
  rows_are = ap rows_of (sym reads) ∙ rows_of_commands (reach book 0).commands

-- what is estimated of a book's lines was worked, whether it is accepted or not
pub all_lines_closed : (book : List ℕ) → AllClosed (closings_of book)
unfolding closings_of
all_lines_closed book = (commands_between (reach book 0).commands fresh fresh_valid).closed

-- a list's book has the list's closings
pub closings_of_list : (cs : List Command) → AllFit cs → closings_of (encode_all cs) ≡ closings cs fresh
unfolding closings_of
closings_of_list cs fits = ap (λ (r : Reach). closings r.commands fresh) (reach_of_list cs fits)
