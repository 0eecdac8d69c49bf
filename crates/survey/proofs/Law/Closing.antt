-- A line that is closed: by the papers' text, and so by applying the command, a valid survey is left with the row of its open line after those that stand.
-- What is estimated of the line is in the ranges of steps 4 to 7, which answer its measured part where N is above 0, and the row is within the greatest line.
use Rattle.std.specs.Prelude.{ℕ, ◌≤◌, ◌<◌, ◌≡◌, refl, true, false, Some, leb, eqb}
use Rattle.std.proofs.Common.{zero-le, arith, ◌∙◌, sym}
use borrow.Author.Tests.{leb-true}
use Rattle.biomass.specs.Report.{gives}
use Rattle.biomass.specs.Limits.{most_estimated}
use Rattle.biomass.specs.Tree.{tree_of, row_biomass, row_of}
use Rattle.powers.specs.Diameter.{greatest_d}
use Rattle.biomass.proofs.Law.Answers.{row_answers}
use Rattle.line.specs.Line.{d_of, N_of, small_number_of, factor_for}
use Rattle.line.proofs.Law.Estimate.{Worked, estimate_bounds}
use Rattle.survey.specs.Survey.{with_row, tree_at, measured_at, estimate, closing_row, close}
use Rattle.rules.specs.Checks.{most_lines}
use Rattle.survey.specs.Apply.{apply}
use Rattle.survey.specs.Valid.{Within, Valid}
use Rattle.rules.proofs.Law.Passed.{Gives, passed}
use Rattle.survey.proofs.Law.Checks.{in_table}
use Rattle.survey.proofs.Law.AsWritten.{measured_by, line_operands, not_zero, as_written_lem}
use Rattle.codec.specs.declared.command.Command.{Command}
use Rattle.line.specs.declared.line.Line.{Line}
use Rattle.survey.specs.declared.survey.Survey.{Survey}

-- closing leaves the line's row after those that stand
pub record ClosesTo (s t : Survey) : Type 0 where
  pub line : Line
  pub is_open : s.line ≡ Some line
  pub room : s.closed < most_lines
  pub is : t ≡ with_row s (closing_row s.factors line)
  pub worked : Worked (estimate s.factors line)
  pub within : Within (closing_row s.factors line)

module _ (s : Survey) (l : Line) (v : Valid s) (is_open : s.line ≡ Some l) (few : leb (small_number_of l) most_estimated ≡ true) where
  -- the line closes with its row, where its measured part was worked
  closes_with : ((measured_at s.factors l).tree.tariff ≤ 50) × ((measured_at s.factors l).tree.d ≤ greatest_d) × ((measured_at s.factors l).N ≤ most_estimated)
      → (0 < (measured_at s.factors l).N
      → row_biomass (measured_at s.factors l).N (measured_at s.factors l).tree ≡ gives (row_of (measured_at s.factors l).N (tree_of (measured_at s.factors l).tree)))
      → ClosesTo s (with_row s (closing_row s.factors l))
  unfolding estimate closing_row
  closes_with small answered =
      let fewer : small_number_of l ≤ most_estimated = leb-true _ _ few in
      let worked : Worked (estimate s.factors l) = record { answered = answered; few = fewer; light = (v.line l is_open).small.light } in
      record {
        line = l;
        is_open = is_open;
        room = v.room l is_open;
        is = refl;
        worked = worked;
        within =
            record {
              species = in_table s l.id l.species v.ids (v.line l is_open).species;
              tariff = small.0;
              d = small.1;
              trees = omega (arith, small.2);
              biomass = estimate_bounds (estimate s.factors l) worked;
            };
      }

  closes_none : eqb l.tally.n 0 ≡ true → ClosesTo s (with_row s (closing_row s.factors l))
  closes_none none = closes_with (rw (measured_by s.factors l none) (zero-le, zero-le, zero-le)) (rw (measured_by s.factors l none) (λ some. absurd (omega arith)))

  closes_some : (f : ℕ) → eqb l.tally.n 0 ≡ false → eqb l.heights.number 0 ≡ false → factor_for s.factors (d_of l) ≡ Some f
      → leb (N_of l) most_estimated ≡ true → ClosesTo s (with_row s (closing_row s.factors l))
  closes_some f some heights factor small =
      let operands = line_operands s l f v is_open (not_zero l.tally.n some) (not_zero l.heights.number heights) factor in
      let fewer : N_of l ≤ most_estimated = leb-true (N_of l) most_estimated small in
      closes_with (rw (measured_by s.factors l some) (operands.tariff.most, operands.d.most, fewer))
      (rw (measured_by s.factors l some) (λ _. row_answers (N_of l) (tree_at s.factors l) (record { least = zero-le; most = fewer }) operands))

text_closes : (s : Survey) → Valid s → Gives (ClosesTo s) (close s)
unfolding close
text_closes s v = search (passed, closes_none, closes_some) depth 16

pub closes_to : (s t : Survey) → Valid s → apply Command.Close s ≡ gives t → ClosesTo s t
closes_to s t v e = text_closes s v t (sym (as_written_lem Command.Close s v) ∙ e)
