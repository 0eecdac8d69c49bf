-- No figure of a row is cut off in the sheet. T, d, N, low and high are within those of the greatest line, since they were worked (Law.Closing);
-- a stratum is one byte of the book, and a species one of 16. So whoever reads the sheet finds the rows of the survey.
use Rattle.std.specs.Prelude.{ℕ, ◌≤◌, ◌<◌, ◌≡◌, List, Some, length, get_or}
use Rattle.std.proofs.Common.{arith, sym, ap, subst, get_or-take, le-ltb}
use Rattle.biomass.specs.Report.{gives}
use Rattle.codec.specs.Bytes.{AllBytes}
use Rattle.codec.specs.Command.{Fits}
use Rattle.survey.specs.Survey.{no_row, fresh, closing_row, rows_of}
use Rattle.rules.specs.Checks.{most_lines}
use Rattle.survey.specs.Valid.{row_at, Valid}
use Rattle.survey.specs.Playing.{ended, play}
use Rattle.survey.specs.Sheet.{sheet_length, find_row}
use Rattle.survey.specs.Total.{sheet_after}
use Rattle.codec.proofs.Law.RoundTrip.{read_is_encoded}
use Rattle.survey.proofs.Law.Sheet.{row_reads_back, rows_number, rows_at_most}
use Rattle.line.proofs.Law.Row.{RowFits}
use Rattle.survey.specs.Closings.{Closing}
use Rattle.survey.proofs.Law.Checks.{none_is_some}
use Rattle.survey.proofs.Law.Closing.{closes_to}
use Rattle.survey.proofs.Law.Effect.{Effect, a_species, a_factor, the_line, a_row, effect}
use Rattle.survey.proofs.Law.Valid.{always, fresh_valid, set_cases}
use Rattle.survey.proofs.Law.Playing.{read_and_applied, step_valid, kept_to_the_end, play_valid}
use Rattle.survey.proofs.Law.Total.{sheet_applied}
use Rattle.codec.specs.declared.command.Command.{Command}
use Rattle.line.specs.declared.row.Row.{Row}
use Rattle.line.specs.declared.line.Line.{Line}
use Rattle.survey.specs.declared.survey.Survey.{Survey}

-- ---- strata are bytes

-- those of the rows and of the open line
abbrev Strata : Survey → Type 0
Strata s = ((l : Line) → s.line ≡ Some l → l.stratum < 256) × ((i : ℕ) → (row_at s i).stratum < 256)

fresh_strata : Strata fresh
unfolding fresh
fresh_strata = (λ l is. none_is_some is, λ i. let none = ap (λ (r : Row). r.stratum) (always most_lines i no_row) in omega (arith, none))

-- a line that follows has the stratum of the line before or one that the command gives, and closing puts the line's into its row
strata_kept : {c : Command} {s t : Survey} {closes : List Closing} → Effect c s t closes → Fits c → Valid s → Strata s → Strata t
unfolding closing_row
strata_kept (a_species g treeless) f v k = k
strata_kept (a_factor g treeless) f v k = k
strata_kept (the_line g) f v k = (g.stratum f k.0, k.1)
strata_kept {s} (a_row r e treeless) f v k =
    let g = closes_to s _ v e in
    subst Strata (sym g.is) (
      λ l is. none_is_some is,
      λ i.
          set_cases (λ (r : Row). r.stratum < 256) s.rows s.closed i (closing_row s.factors g.line) no_row (omega (arith, v.places, g.room))
          (λ same. k.0 g.line g.is_open) (λ other. k.1 i),
    )

-- ---- the rows of an accepted book

module _ (book : List ℕ) (s : Survey) (all : AllBytes book) (accepted : play book ≡ ended s) where
  -- every command was read from bytes, so that its operands fit theirs
  kept : Valid s × Strata s
  kept =
      kept_to_the_end book (λ s. Valid s × Strata s)
      (λ at s t next k e.
      let one = read_and_applied book at s t next e in
      let fits = (read_is_encoded book at next one.command all one.is_read).fits in
      (step_valid book at s t next k.0 e, strata_kept (effect one.command s t one.is_applied) fits k.0 k.1))
      (fresh_valid, fresh_strata) s accepted

  -- each figure is below 256^k, with k the bytes that the row has for it
  pub rows_fit : (i : ℕ) → i < s.closed → RowFits (row_at s i)
  rows_fit i inside =
      let w = kept.0.rows i inside in
      record {
        stratum = kept.1.1 i;
        species = omega (arith, w.species);
        tariff = omega (arith, w.tariff);
        d = omega (arith, w.d);
        trees = omega (arith, w.trees);
        low = omega (arith, w.biomass.ordered, w.biomass.small);
        high = omega (arith, w.biomass.small);
      }

-- the sheet of an accepted book gives its rows back, the i-th by its number
pub rows_read_back : (book sheet : List ℕ) (s : Survey) → AllBytes book → play book ≡ ended s → sheet_length ≤ length sheet
    → (i : ℕ) → i < s.closed → find_row (sheet_after book sheet) i ≡ gives (row_at s i)
rows_read_back book sheet s all accepted room i inside =
    let v = play_valid book s accepted in
    let z = no_row in
    let is : get_or (rows_of s) i z ≡ row_at s i = get_or-take s.closed s.rows i z inside in
    rw (sheet_applied book sheet, le-ltb (length sheet) sheet_length room, accepted, ← is)
    (row_reads_back sheet (rows_of s) (omega (arith, rows_at_most s v)) i z (omega (arith, rows_number s v)) (rw is (rows_fit book s all accepted i inside)))
