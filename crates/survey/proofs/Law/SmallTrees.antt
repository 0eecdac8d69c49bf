-- Document 02, Q-1, at two books: what totalling promises of them says something, since they are accepted and have small trees, the one beside measured trees and
-- the other alone, without a height tree or a factor.
use Rattle.std.specs.Prelude.{ℕ, ◌≤◌, ◌≡◌, refl, List, [], ◌∷◌, length, pos}
use Rattle.std.proofs.Common.{◌∙◌, subst, le-ltb}
use Rattle.powers.specs.Greatest.{greatest}
use Rattle.biomass.specs.Tariff.{single_tariff, line_tariff}
use Rattle.biomass.specs.Mean.{mean_of, mean}
use Rattle.biomass.specs.Trees.{trees}
use Rattle.biomass.specs.Stem.{VL, VH, stem_ends, stem}
use Rattle.biomass.specs.Crown.{crown_ends, crown}
use Rattle.biomass.specs.Root.{root_ends, root}
use Rattle.biomass.specs.Tree.{tree, row_biomass}
use Rattle.biomass.specs.SmallTrees.{small_trees}
use Rattle.biomass.specs.Fraction.{whole, ◌≼◌}
use Rattle.codec.specs.Reading.{species_from, factor_from, open_from, measured_from, height_from, small_from, command_from, read}
use Rattle.survey.specs.Reader.{encode_all, reach_up_to, reach}
use Rattle.line.specs.Line.{add_small, tree_with, Estimate, no_measured}
use Rattle.survey.specs.Survey.{fresh, declare, give_factor, opened, open_line, measure, give_height, give_small, measured_at, estimate, closing_row, close, end}
use Rattle.survey.specs.Closings.{closings, closings_of}
use Rattle.survey.specs.Apply.{apply_measured, apply_height, apply_close}
use Rattle.line.specs.AnyLine.{add_trees, add_height, row_gaining, worked, line_row}
use Rattle.survey.specs.Playing.{step_by, play_up_to_by, play}
use Rattle.survey.specs.Sheet.{sheet_length}
use Rattle.survey.specs.Total.{totalled, sum_of, total_of, total}
use Rattle.survey.specs.Demand3.{lines_of, exact_total, Demand3, Demanded}
use Rattle.survey.specs.Listing.{listed, species3, factor101, line1, four_trees, height_tree}
use Rattle.survey.proofs.Law.Total.{total_applied}
use Rattle.survey.proofs.Law.Demand3.{demanded}
use Rattle.survey.proofs.Law.NotVacuous.{from_below, from_above, some_not_above, some_not_below}
use Rattle.codec.specs.declared.command.Command.{Command}
use Rattle.survey.specs.declared.total.Totals.{Totals}

-- the 289 saplings of the protocol's Appendix 6, stratum I, each of 0.0015756 t of carbon
abbrev pub saplings : Command
saplings = Command.Small 1575600 289

-- ---- both sorts: the listing's first line, with the saplings

unfoldable pub both_sorts : List ℕ
both_sorts = encode_all (species3 ∷ factor101 ∷ line1 ∷ four_trees ∷ saplings ∷ height_tree ∷ Command.Close ∷ Command.End ∷ [])

-- 24 measured and 1,734 small trees
abbrev pub both_totals : Totals
both_totals = record { rows = 1; trees = 175800; carbon = record { low = record { 0 = 102213926 }; high = record { 0 = 102213928 } } }

pub both_totalled : (sheet : List ℕ) → sheet_length ≤ length sheet → total both_sorts sheet ≡ totalled both_totals
unfolding
    both_sorts encode_all species_from factor_from open_from measured_from height_from small_from command_from read
    fresh declare give_factor opened open_line apply_measured add_trees apply_height add_height give_small add_small apply_close end
    line_row greatest mean_of mean trees single_tariff line_tariff
    worked row_gaining row_biomass small_trees tree stem stem_ends VL VH crown crown_ends root root_ends
    step_by play_up_to_by play total_of sum_of
both_totalled sheet room = total_applied both_sorts sheet ∙ rw (le-ltb (length sheet) sheet_length room)

-- its line, as demand 3 takes it, has trees of both sorts
abbrev pub both_lines : List Estimate
both_lines = record { measured = record { N = 2400; tree = tree_with listed 26 6000 101 }; small = record { number = 173400; carbon = 1575600 } } ∷ []

pub both_lines_lem : lines_of both_sorts ≡ both_lines
unfolding
    both_sorts encode_all species_from factor_from open_from measured_from height_from small_from command_from read reach_up_to reach
    fresh declare give_factor opened open_line measure give_height give_small add_small close end
    greatest mean_of single_tariff measured_at estimate closing_row lines_of closings_of closings
both_lines_lem = refl

-- so demand 3 is said of these figures and this line, whose exact value lies between them, with fractions that there are
pub both_demanded : (sheet : List ℕ) → sheet_length ≤ length sheet → Demand3 both_lines 102213926 102213928
both_demanded sheet room = rw both_lines_lem at (subst (Demanded both_sorts) (both_totalled sheet room) (demanded both_sorts sheet))

pub both_between : (sheet : List ℕ) → sheet_length ≤ length sheet
    → (whole (pos 102213926) ≼ exact_total (from_above both_lines) both_lines) × (exact_total (from_below both_lines) both_lines ≼ whole (pos 102213928))
both_between sheet room =
    let d = both_demanded sheet room in
    (d.not_under_the_low _ (some_not_below both_lines), d.not_over_the_high _ (some_not_above both_lines))

-- ---- "A line with small trees only needs no height tree.": the stratum of Appendix 6, of which 0.1 ha in 24 ha was counted

unfoldable pub small_only : List ℕ
small_only = encode_all (species3 ∷ Command.Open 1 3 240000 1000 ∷ saplings ∷ Command.Close ∷ Command.End ∷ [])

-- the 69,360 saplings of the protocol
abbrev pub small_totals : Totals
small_totals = record { rows = 1; trees = 6936000; carbon = record { low = record { 0 = 400706592 }; high = record { 0 = 400706593 } } }

pub small_totalled : (sheet : List ℕ) → sheet_length ≤ length sheet → total small_only sheet ≡ totalled small_totals
unfolding
    small_only encode_all species_from open_from small_from command_from read fresh declare opened open_line give_small add_small apply_close end
    line_row trees row_gaining small_trees step_by play_up_to_by play total_of sum_of
small_totalled sheet room = total_applied small_only sheet ∙ rw (le-ltb (length sheet) sheet_length room)

pub small_lines : lines_of small_only ≡ record { measured = no_measured; small = record { number = 6936000; carbon = 1575600 } } ∷ []
unfolding
    small_only encode_all species_from open_from small_from command_from read reach_up_to reach fresh declare opened open_line give_small add_small close end
    measured_at estimate closing_row lines_of closings_of closings
small_lines = refl
