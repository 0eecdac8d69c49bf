-- Document 02, Q-4: no trees estimated is no trees recorded, of every book that is accepted. Each command notes so many trees more of the open line as it
-- records (Law.Effect), and a closing estimates at least as many as are noted, since the plots are within the net area, and none of none (biomass's Law.Trees).
-- No line is open when a book begins or ends, so that the trees recorded are all estimated; and demand 3 says when the two figures are equal.
use Rattle.std.specs.Prelude.{ℕ, ◌+◌, ◌*◌, ◌≤◌, ◌<◌, ◌≡◌, refl, List, [], ◌∷◌, ◌++◌, map, Option, Some}
use Rattle.std.proofs.Common.{zero-le, arith, ◌∙◌, sym, ap, subst}
use Rattle.biomass.specs.Trees.{trees_of}
use Rattle.biomass.proofs.Law.Trees.{none_lost, none_made}
use Rattle.biomass.proofs.Law.Project.{none_or_some}
use Rattle.line.specs.Line.{small_number_of, MeasuredPart, no_measured, both_numbers}
use Rattle.survey.specs.Survey.{fresh, rows_of, some_measured, measured_at, estimate}
use Rattle.survey.specs.Closings.{Closing, estimate_of, closing, closings, closings_of}
use Rattle.survey.specs.Valid.{Valid}
use Rattle.survey.specs.Playing.{Played, ended, stopped, play}
use Rattle.survey.specs.Total.{totalled, total_of, answer_of, total}
use Rattle.survey.specs.Demand3.{lines_of, trees_added}
use Rattle.survey.specs.Recorded.{trees_in, recorded_by, recorded, AsRecorded}
use Rattle.survey.proofs.Law.AsWritten.{as_written_lem}
use Rattle.survey.proofs.Law.Closing.{closes_to}
use Rattle.survey.proofs.Law.Effect.{noted, Effect, a_species, a_factor, the_line, a_row, effect}
use Rattle.survey.proofs.Law.Valid.{fresh_valid, apply_valid}
use Rattle.survey.proofs.Law.Playing.{AllTaken, none_left, and_then, play_takes, play_valid, play_ended}
use Rattle.survey.proofs.Law.Total.{of_answer}
use Rattle.survey.proofs.Law.Demand3.{none_added, every_none, accepted_demanded, trees_are}
use Rattle.codec.specs.declared.command.Command.{Command}
use Rattle.line.specs.declared.line.Line.{Line}
use Rattle.survey.specs.declared.survey.Survey.{Survey}

-- So many trees are noted of the open line before and after, so many are recorded in between, and so many estimated, in hundredths. Each tree noted before or
-- recorded is estimated or still noted; where there was none, none is estimated; and no more are noted than there were
record NoneLost (before recorded estimated after : ℕ) : Type 0 where
  enough : 100 * (before + recorded) ≤ estimated + 100 * after
  of_none : before ≡ 0 → recorded ≡ 0 → estimated ≡ 0
  no_more : after ≤ before + recorded

-- ---- a line that closes

module _ (factors : List (Option ℕ)) (l : Line) (some_plots : 0 < l.q) (plots : l.q ≤ l.p) where
  of_measured : NoneLost l.tally.n 0 (measured_at factors l).N 0
  unfolding measured_at
  of_measured =
      none_or_some (λ (m : MeasuredPart). NoneLost l.tally.n 0 m.N 0) l.tally.n no_measured (some_measured factors l) (λ none. omega (arith, none))
      (λ some. let least = none_lost l.tally.n l.p l.q some_plots plots in omega arith)

  of_small : NoneLost l.small.count 0 (small_number_of l) 0
  of_small =
      let least = none_lost l.small.count l.p l.q some_plots plots in
      record {
        enough = omega arith;
        of_none = λ uncounted _. ap (λ (count : ℕ). trees_of count l.p l.q) uncounted ∙ none_made l.p l.q some_plots;
        no_more = zero-le;
      }

  of_line : NoneLost (noted (Some l)) 0 (both_numbers (estimate factors l)) 0
  unfolding estimate
  of_line =
      let m = of_measured in
      let t = of_small in
      record {
        enough = omega (arith, m.enough, t.enough);
        of_none = λ none _. omega (arith, m.of_none (omega arith) refl, t.of_none (omega arith) refl);
        no_more = zero-le;
      }

-- ---- commands, one after the other

abbrev estimated : List Closing → ℕ
estimated cs = trees_added (map estimate_of cs)

of_effect : {c : Command} {s t : Survey} {closes : List Closing} → Valid s → Effect c s t closes → NoneLost (noted s.line) (trees_in c) (estimated closes) (noted t.line)
unfolding trees_added
of_effect v (a_species g treeless) = omega (arith, treeless)
of_effect v (a_factor g treeless) = omega (arith, treeless)
of_effect v (the_line g) = omega (arith, g.trees)
of_effect {c} {s} v (a_row r e treeless) =
    let g = closes_to s _ v e in
    let l = v.line g.line g.is_open in
    let k = of_line s.factors g.line l.q.least l.plots in
    rw g.is_open (omega (arith, treeless, k.enough, k.of_none))

estimated_both : (cs ds : List Closing) → estimated (cs ++ ds) ≡ estimated cs + estimated ds
unfolding trees_added
estimated_both [] ds = omega arith
estimated_both (c ∷ cs) ds = omega (arith, estimated_both cs ds)

of_taken : {cs : List Command} {s t : Survey} → Valid s → AllTaken cs s t → NoneLost (noted s.line) (recorded_by cs) (estimated (closings cs s)) (noted t.line)
unfolding recorded_by closings trees_added
of_taken v none_left = omega arith
of_taken v (and_then {c} {cs} {s} {t} e rest) =
    let first = of_effect v (effect c s t e) in
    let others = of_taken (apply_valid c s t v e) rest in
    rw (sym (as_written_lem c s v) ∙ e, estimated_both (closing c s) (closings cs t))
    (record {
      enough = omega (arith, first.enough, others.enough);
      of_none = λ none unrecorded. omega (arith, first.of_none none (omega arith), others.of_none (omega (arith, first.no_more)) (omega arith));
      no_more = omega (arith, first.no_more, others.no_more);
    })

-- ---- of every book

module _ (book : List ℕ) (s : Survey) (accepted : play book ≡ ended s) where
  of_book : NoneLost 0 (recorded book) (trees_added (lines_of book)) 0
  unfolding recorded lines_of closings_of fresh
  of_book =
      subst (λ (o : Option Line). NoneLost 0 (recorded book) (trees_added (lines_of book)) (noted o)) ((play_valid book s accepted).finished (play_ended book s accepted))
      (of_taken fresh_valid (play_takes book s accepted))

  accepted_recorded : AsRecorded book (totalled (total_of (rows_of s)))
  accepted_recorded =
      let k = of_book in
      let are = trees_are book s accepted in
      let d = accepted_demanded book s accepted in
      record {
        only_when = λ none. omega (arith, k.enough, are);
        when_none = λ none. omega (arith, k.of_none refl none, are);
        equal_only_when = λ equal. omega (arith, k.enough, none_added (lines_of book) (d.equal_only_when equal));
        equal_when = λ none. d.equal_when (every_none (lines_of book) (k.of_none refl none));
        none_lost = omega (arith, k.enough, are);
      }

played_recorded : (book : List ℕ) (p : Played) → play book ≡ p → AsRecorded book (answer_of p)
played_recorded book (stopped n at) e = tt
played_recorded book (ended s) e = accepted_recorded book s e

-- with every sheet, what is answered is as recorded
pub as_recorded : (book sheet : List ℕ) → AsRecorded book (total book sheet)
as_recorded book sheet = of_answer book sheet (AsRecorded book) tt (played_recorded book)
