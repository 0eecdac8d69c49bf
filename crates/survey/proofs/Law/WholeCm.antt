-- Document 02, Q-5, at two books that differ in the cm of their factor. The mean of 24 trees of 60 cm and one of 59 is 59.96 cm; to the tenth it would be 60.0. The
-- factor is read at its whole cm, 59: so the book with the factor at 60 is refused with 14 at its closing, and the one with the factor at 59 is taken, and has
-- that mean in its row.
use Rattle.std.specs.Prelude.{None, Some, ℕ, ◌≤◌, ◌≡◌, refl, true, List, [], ◌∷◌, ◌++◌, length, drop, set, replicate}
use Rattle.std.proofs.Common.{◌∙◌, le-ltb}
use Rattle.powers.specs.Greatest.{greatest}
use Rattle.biomass.specs.Tariff.{single_tariff, line_tariff}
use Rattle.biomass.specs.Mean.{mean_of, mean}
use Rattle.biomass.specs.Trees.{trees}
use Rattle.biomass.specs.Stem.{VL, VH, stem_ends, stem}
use Rattle.biomass.specs.Crown.{crown_ends, crown}
use Rattle.biomass.specs.Root.{root_ends, root}
use Rattle.biomass.specs.Tree.{tree, row_biomass}
use Rattle.biomass.specs.Ends.{between}
use Rattle.codec.specs.Bytes.{stored_at}
use Rattle.codec.specs.Reading.{species_from, factor_from, open_from, measured_from, height_from, command_from, read}
use Rattle.line.specs.Row.{row_length, row_bytes}
use Rattle.line.specs.AnyLine.{add_trees, add_height, row_gaining, worked, line_row}
use Rattle.survey.specs.Reader.{encode_all}
use Rattle.survey.specs.Survey.{no_row, fresh, declare, give_factor, opened, open_line, end}
use Rattle.survey.specs.Apply.{apply_measured, apply_height, apply_close}
use Rattle.survey.specs.Playing.{ended, step_by, play_up_to_by, play}
use Rattle.survey.specs.Sheet.{sheet_length, sheet_bytes}
use Rattle.survey.specs.Total.{refused_at, totalled, sum_of, total_of, total, sheet_after}
use Rattle.survey.specs.Listing.{listed, species3, line1, height_tree}
use Rattle.survey.proofs.Law.Total.{total_applied, sheet_applied}
use Rattle.codec.specs.declared.command.Command.{Command}
use Rattle.line.specs.declared.row.Row.{Row}
use Rattle.survey.specs.declared.survey.Survey.{Survey}
use Rattle.survey.specs.declared.total.Totals.{Totals}

-- the book with its factor at so many cm
unfoldable pub with_factor_at : ℕ → List ℕ
with_factor_at cm =
    encode_all (species3 ∷ Command.Factor cm 101 ∷ line1 ∷ Command.Measured 60 24 ∷ Command.Measured 59 1 ∷ height_tree ∷ Command.Close ∷ Command.End ∷ [])

pub factor_at_60_refused : (sheet : List ℕ) → sheet_length ≤ length sheet → total (with_factor_at 60) sheet ≡ refused_at 14 47
unfolding
    with_factor_at encode_all species_from factor_from open_from measured_from height_from command_from read
    fresh declare give_factor opened open_line apply_measured add_trees apply_height add_height apply_close end
    line_row greatest mean_of mean trees single_tariff line_tariff step_by play_up_to_by play
factor_at_60_refused sheet room = total_applied (with_factor_at 60) sheet ∙ rw (le-ltb (length sheet) sheet_length room)

-- what the other comes to: the survey at its end, and its row
abbrev pub taken_row : Row
taken_row = record { stratum = 1; species = 3; tariff = 26; d = 5996; trees = 15000; biomass = between 313905559500 313905560851 }

unfoldable taken_survey : Survey
taken_survey =
    record {
      species = set fresh.species 3 (Some listed);
      factors = set fresh.factors 59 (Some 101);
      rows = taken_row ∷ replicate 31 no_row;
      closed = 1;
      line = None;
      ended = true;
    }

taken_played : play (with_factor_at 59) ≡ ended taken_survey
unfolding
    with_factor_at encode_all species_from factor_from open_from measured_from height_from command_from read
    fresh declare give_factor opened open_line apply_measured add_trees apply_height add_height apply_close end
    line_row greatest mean_of mean trees single_tariff line_tariff
    worked row_gaining row_biomass tree stem stem_ends VL VH crown crown_ends root root_ends
    step_by play_up_to_by play taken_survey
taken_played = refl

abbrev pub taken_totals : Totals
taken_totals = record { rows = 1; trees = 15000; carbon = record { low = record { 0 = 575493525 }; high = record { 0 = 575493529 } } }

pub factor_at_59_taken : (sheet : List ℕ) → sheet_length ≤ length sheet → total (with_factor_at 59) sheet ≡ totalled taken_totals
unfolding total_of sum_of taken_survey
factor_at_59_taken sheet room = total_applied (with_factor_at 59) sheet ∙ rw (le-ltb (length sheet) sheet_length room, taken_played)

pub taken_sheet : (sheet : List ℕ) → sheet_length ≤ length sheet → sheet_after (with_factor_at 59) sheet ≡ row_bytes taken_row ++ drop row_length sheet
unfolding stored_at sheet_bytes row_bytes taken_survey
taken_sheet sheet room = sheet_applied (with_factor_at 59) sheet ∙ rw (le-ltb (length sheet) sheet_length room, taken_played)
