-- Totalling the listing gives what document 01 prints of it. All of the book is numbers, so reading it, applying its commands and working its rows compute:
-- one equation gives the survey at its end (`listing_played`), and the answer, the sheet and the lines are read off it.
use Rattle.std.specs.Prelude.{None, Some, ℕ, ◌*◌, ◌≤◌, ◌≡◌, refl, true, List, [], ◌∷◌, ◌++◌, map, length, drop, set, replicate}
use Rattle.std.proofs.Common.{◌∙◌, sym, le-ltb}
use Rattle.powers.specs.Greatest.{greatest}
use Rattle.biomass.specs.Tariff.{single_tariff, line_tariff}
use Rattle.biomass.specs.Mean.{mean_of, mean}
use Rattle.biomass.specs.Trees.{trees}
use Rattle.biomass.specs.Stem.{VL, VH, stem_ends, stem}
use Rattle.biomass.specs.Crown.{crown_ends, crown}
use Rattle.biomass.specs.Root.{root_ends, root}
use Rattle.biomass.specs.Tree.{tree, row_biomass}
use Rattle.codec.specs.Reading.{species_from, factor_from, open_from, measured_from, height_from, command_from, read}
use Rattle.codec.specs.Bytes.{stored_at}
use Rattle.survey.specs.Reader.{encode_all, reach_up_to, reach}
use Rattle.line.specs.Line.{tree_with, Estimate, no_trees}
use Rattle.survey.specs.Survey.{no_row, fresh, declare, give_factor, opened, open_line, measure, give_height, measured_at, estimate, closing_row, close, end}
use Rattle.survey.specs.AsWritten.{as_written}
use Rattle.survey.specs.Closings.{row_of_closing, closings, closings_of}
use Rattle.survey.specs.Apply.{apply_measured, apply_height, apply_close}
use Rattle.line.specs.AnyLine.{add_trees, add_height, row_gaining, worked, line_row}
use Rattle.survey.specs.Playing.{ended, step_by, play_up_to_by, play_by, play}
use Rattle.survey.specs.Sheet.{sheet_length, sheet_bytes}
use Rattle.line.specs.Row.{row_length, row_bytes}
use Rattle.survey.specs.Total.{totalled, sum_of, total_of, total, sheet_after}
use Rattle.survey.specs.Demand3.{lines_of}
use Rattle.survey.specs.Listing.{listed, listing, listing_totals, row1, row2}
use Rattle.survey.proofs.Law.Playing.{play_as_written}
use Rattle.survey.proofs.Law.Closings.{rows_are}
use Rattle.survey.proofs.Law.Total.{total_applied, sheet_applied}
use Rattle.survey.specs.declared.survey.Survey.{Survey}

-- ---- what the listing leaves

-- the survey at its end
unfoldable pub listing_survey : Survey
listing_survey =
    record {
      species = set fresh.species 3 (Some listed);
      factors = set fresh.factors 60 (Some 101);
      rows = row1 ∷ row2 ∷ replicate 30 no_row;
      closed = 2;
      line = None;
      ended = true;
    }

-- its lines, as demand 3 takes them
abbrev pub listing_lines : List Estimate
listing_lines = record { measured = record { N = 2400; tree = tree_with listed 26 6000 101 }; small = record { number = 0; carbon = 0 } } ∷ no_trees ∷ []

-- ---- and that it does

pub listing_played : play listing ≡ ended listing_survey
unfolding
    listing encode_all species_from factor_from open_from measured_from height_from command_from read
    fresh declare give_factor opened open_line apply_measured add_trees apply_height add_height apply_close end
    line_row greatest mean_of mean trees single_tariff line_tariff
    worked row_gaining row_biomass tree stem stem_ends VL VH crown crown_ends root root_ends
    step_by play_up_to_by play listing_survey
listing_played = refl

-- and so by the text
pub listing_accepted : play_by as_written listing ≡ ended listing_survey
listing_accepted = sym (play_as_written listing) ∙ listing_played

-- so its totals are those printed, on every sheet that is not too short
pub listing_totalled : (sheet : List ℕ) → sheet_length ≤ length sheet → total listing sheet ≡ totalled listing_totals
unfolding total_of sum_of listing_survey
listing_totalled sheet room = total_applied listing sheet ∙ rw (le-ltb (length sheet) sheet_length room, listing_played)

-- its two rows stand first in the sheet, and the rest of the sheet is as it was
pub listing_sheet : (sheet : List ℕ) → sheet_length ≤ length sheet → sheet_after listing sheet ≡ row_bytes row1 ++ row_bytes row2 ++ drop (2 * row_length) sheet
unfolding stored_at sheet_bytes row_bytes listing_survey
listing_sheet sheet room = sheet_applied listing sheet ∙ rw (le-ltb (length sheet) sheet_length room, listing_played)

-- and its lines are those two
pub listing_lines_lem : lines_of listing ≡ listing_lines
unfolding
    listing encode_all species_from factor_from open_from measured_from height_from command_from read reach_up_to reach
    fresh declare give_factor opened open_line measure give_height close end
    greatest mean_of single_tariff measured_at estimate closing_row lines_of closings_of closings
listing_lines_lem = refl

-- which give its rows
pub listing_rows : row1 ∷ row2 ∷ [] ≡ map row_of_closing (closings_of listing)
unfolding listing_survey
listing_rows = rows_are listing listing_survey listing_accepted
