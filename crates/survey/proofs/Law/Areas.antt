-- Document 02, Q-4, at books. Where the plots are all of the net area a line is taken, and its trees are those recorded; where they are greater by 1 it is
-- refused with 17, also with another line open and its species undeclared. And what a user may read says something: of books with trees, and of one without.
use Rattle.std.specs.Prelude.{ℕ, ◌*◌, ◌≤◌, ◌≡◌, refl, List, [], ◌∷◌, length}
use Rattle.std.proofs.Common.{◌∙◌, le-ltb}
use Rattle.biomass.specs.Trees.{trees}
use Rattle.biomass.specs.SmallTrees.{small_trees}
use Rattle.codec.specs.Reading.{species_from, factor_from, open_from, measured_from, height_from, small_from, command_from, read}
use Rattle.line.specs.Line.{add_small}
use Rattle.line.specs.AnyLine.{row_gaining, line_row}
use Rattle.survey.specs.Reader.{encode_all, reach_up_to, reach}
use Rattle.survey.specs.Survey.{fresh, declare, opened, open_line, give_small, end}
use Rattle.survey.specs.Apply.{apply_close}
use Rattle.survey.specs.Playing.{step_by, play_up_to_by, play}
use Rattle.survey.specs.Recorded.{recorded_by, recorded}
use Rattle.survey.specs.Sheet.{sheet_length}
use Rattle.survey.specs.Total.{refused_at, totalled, sum_of, total_of, total}
use Rattle.survey.specs.Listing.{species3, line2, listing}
use Rattle.survey.proofs.Law.SmallTrees.{saplings}
use Rattle.survey.proofs.Law.Total.{total_applied}
use Rattle.survey.proofs.Law.WrongPrograms.{second_line}
use Rattle.codec.specs.declared.command.Command.{Command}
use Rattle.survey.specs.declared.total.Totals.{Totals}

-- ---- all of the net area: p = q

unfoldable pub whole_area : List ℕ
whole_area = encode_all (species3 ∷ Command.Open 1 3 5000 5000 ∷ saplings ∷ Command.Close ∷ Command.End ∷ [])

abbrev pub whole_area_totals : Totals
whole_area_totals = record { rows = 1; trees = 28900; carbon = record { low = record { 0 = 1669610 }; high = record { 0 = 1669611 } } }

pub whole_area_totalled : (sheet : List ℕ) → sheet_length ≤ length sheet → total whole_area sheet ≡ totalled whole_area_totals
unfolding
    whole_area encode_all species_from open_from small_from command_from read fresh declare opened open_line give_small add_small apply_close end
    line_row trees row_gaining small_trees step_by play_up_to_by play total_of sum_of
whole_area_totalled sheet room = total_applied whole_area sheet ∙ rw (le-ltb (length sheet) sheet_length room)

-- the 289 trees that it records, in hundredths: the bound that is promised is met, and could be no greater
pub whole_area_recorded : 100 * recorded whole_area ≡ whole_area_totals.trees
unfolding whole_area encode_all species_from open_from small_from command_from read reach_up_to reach recorded_by recorded
whole_area_recorded = refl

-- ---- no tree at all: the two figures are equal. The book is the one of the listing's second line (Law.WrongPrograms)

abbrev pub nothing_totals : Totals
nothing_totals = record { rows = 1; trees = 0; carbon = record { low = record { 0 = 0 }; high = record { 0 = 0 } } }

pub nothing_totalled : (sheet : List ℕ) → sheet_length ≤ length sheet → total second_line sheet ≡ totalled nothing_totals
unfolding
    second_line encode_all species_from open_from command_from read fresh declare opened open_line trees row_gaining line_row apply_close end
    step_by play_up_to_by play total_of sum_of
nothing_totalled sheet room = total_applied second_line sheet ∙ rw (le-ltb (length sheet) sheet_length room)

pub nothing_recorded : recorded second_line ≡ 0
unfolding second_line encode_all species_from open_from command_from read reach_up_to reach recorded_by recorded
nothing_recorded = refl

-- ---- the listing records 4 trees, of which 24 are made

pub listing_recorded : recorded listing ≡ 4
unfolding listing encode_all species_from factor_from open_from measured_from height_from command_from read reach_up_to reach recorded_by recorded
listing_recorded = refl

-- ---- q above p by 1: 17 at the opening

unfoldable pub above_by_one : List ℕ
above_by_one = encode_all (species3 ∷ Command.Open 1 3 4999 5000 ∷ saplings ∷ Command.Close ∷ Command.End ∷ [])

pub above_by_one_refused : (sheet : List ℕ) → sheet_length ≤ length sheet → total above_by_one sheet ≡ refused_at 17 21
unfolding above_by_one encode_all species_from open_from command_from read fresh declare opened open_line step_by play_up_to_by play
above_by_one_refused sheet room = total_applied above_by_one sheet ∙ rw (le-ltb (length sheet) sheet_length room)

-- and before it is asked whether a line is open (9) and whether the species is declared (8)
unfoldable pub wrong_besides : List ℕ
wrong_besides = encode_all (species3 ∷ line2 ∷ Command.Open 1 4 4999 5000 ∷ [])

pub seventeen_first : (sheet : List ℕ) → sheet_length ≤ length sheet → total wrong_besides sheet ≡ refused_at 17 32
unfolding wrong_besides encode_all species_from open_from command_from read fresh declare opened open_line step_by play_up_to_by play
seventeen_first sheet room = total_applied wrong_besides sheet ∙ rw (le-ltb (length sheet) sheet_length room)
