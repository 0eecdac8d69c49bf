-- "Offer these in turn and see them rejected." The six wrong programs of document 01's last section, and its low of 0: each is offered the listing, or a book
-- besides, and a sheet of 800 bytes or more, and what it would hand back is not what totalling promises (Promise). "Demand 2 shuts out all six. A low of 0 with
-- a vast high falls to both 2 and 3." (Law.Witness has the two of them that are about one command.)
use Rattle.std.specs.Prelude.{ℕ, zero, suc, ◌+◌, ◌*◌, ◌≤◌, length, take, drop, pos}
use native.Mathlib.Omega.{arith}
use Rattle.std.proofs.Math.Path.{◌≡◌, sym, ap}
use Rattle.std.proofs.Common.{◌∙◌, lit≤, lit<, le-ltb}
use mathlib.Core.List.{List, [], ◌∷◌, ◌++◌}
use Rattle.powers.specs.Diameter.{crown_limit, root_limit}
use Rattle.powers.specs.Greatest.{greatest}
use Rattle.biomass.specs.Report.{Report, refused, gives}
use Rattle.biomass.specs.Tariff.{single_tariff, line_tariff}
use Rattle.biomass.specs.Mean.{mean_of, mean}
use Rattle.biomass.specs.Trees.{trees}
use Rattle.biomass.specs.Trees as Trees
use Rattle.biomass.specs.Stem.{stem}
use Rattle.biomass.specs.Crown.{crown}
use Rattle.biomass.specs.Root.{root}
use Rattle.biomass.specs.Tree.{tree, row_biomass}
use Rattle.biomass.proofs.Law.Gives.{figure_is}
use Rattle.biomass.specs.Fraction.{whole}
use Rattle.biomass.specs.Exact.{Given, exact_stem, exact_crown, exact_root}
use Rattle.biomass.proofs.Law.Fraction.{≼_trans}
use Rattle.biomass.proofs.Law.Signed.{pos_le}
use Rattle.codec.specs.Bytes.{byte, number_at, stored_at}
use Rattle.codec.specs.Reading.{species_from, factor_from, open_from, measured_from, height_from, command_from, read}
use Rattle.survey.specs.Reader.{encode_all}
use Rattle.survey.specs.Survey.{fresh, declare, give_factor, opened, open_line, end}
use Rattle.survey.specs.Apply.{apply_measured, apply_height, apply_close}
use Rattle.line.specs.Exact.{exact_of}
use Rattle.line.specs.AnyLine.{add_trees, add_height, row_gaining, worked, line_row}
use Rattle.survey.specs.Playing.{step_by, play_up_to_by, play}
use Rattle.survey.specs.Sheet.{sheet_length, sheet_bytes}
use Rattle.line.specs.Row.{row_length, row_bytes}
use Rattle.survey.specs.Total.{Answer, refused_at, totalled, sum_of, total_of, total, sheet_after}
use Rattle.survey.specs.Demand3.{Fractions, NoneAbove, trees_added, exact_sum, exact_total, Demand3, lines_of}
use Rattle.survey.specs.Promise.{Promised}
use Rattle.survey.specs.Listing.{species3, factor101, height_tree, line2, listing, listing_totals, row1, row2}
use Rattle.survey.proofs.Law.Listing.{listing_lines, listing_totalled, listing_sheet, listing_lines_lem}
use Rattle.survey.proofs.Law.Total.{total_applied, sheet_applied}
use Rattle.codec.specs.declared.command.Command.{Command}
use Rattle.survey.specs.declared.total.Totals.{Totals}

-- ---- a second book, whose first line is the listing's second

unfoldable pub second_line : List ℕ
second_line = encode_all (species3 ∷ line2 ∷ Command.Close ∷ Command.End ∷ [])

second_sheet : (sheet : List ℕ) → sheet_length ≤ length sheet → sheet_after second_line sheet ≡ row_bytes row2 ++ drop row_length sheet
unfolding
    second_line encode_all species_from open_from command_from read fresh declare opened open_line trees row_gaining line_row apply_close end step_by play_up_to_by play
    stored_at sheet_bytes row_bytes
second_sheet sheet room = sheet_applied second_line sheet ∙ rw (le-ltb (length sheet) sheet_length room)

-- ---- a third book, of one measured tree: its areas, 5 and 3, are such that step 3 rounds up

unfoldable pub one_tree : List ℕ
one_tree = encode_all (species3 ∷ factor101 ∷ Command.Open 1 3 5 3 ∷ Command.Measured 60 1 ∷ height_tree ∷ Command.Close ∷ Command.End ∷ [])

-- the trees that come back
abbrev pub trees_back : Answer → Report ℕ
trees_back (refused_at n at) = refused n
trees_back (totalled t) = gives t.trees

-- 167 hundredths, and so in its row
one_tree_lem : (sheet : List ℕ) → sheet_length ≤ length sheet → (trees_back (total one_tree sheet) ≡ gives 167) × (number_at 4 (sheet_after one_tree sheet) 5 ≡ 167)
unfolding
    one_tree encode_all species_from factor_from open_from measured_from height_from command_from read
    fresh declare give_factor opened open_line apply_measured add_trees apply_height add_height apply_close end
    line_row greatest mean_of mean trees single_tariff line_tariff worked row_gaining row_biomass tree stem crown root
    step_by play_up_to_by play total_of sum_of stored_at sheet_bytes row_bytes
one_tree_lem sheet room =
    let long = le-ltb (length sheet) sheet_length room in
    (ap trees_back (total_applied one_tree sheet) ∙ rw long, ap (λ (l : List ℕ). number_at 4 l 5) (sheet_applied one_tree sheet) ∙ rw long)

-- ---- "Demand 2 shuts out all six."

-- "a tree number not from step 3"
module _ {sheet after : List ℕ} {r : Answer} (room : sheet_length ≤ length sheet) (promised : Promised one_tree sheet r after) where
  -- the trees are step 3's of n 1, p 5 and q 3, in the totals and in the row
  pub trees_from_step_3 : trees_back r ≡ gives (Trees.trees_of 1 5 3)
  trees_from_step_3 = ap trees_back promised.answered ∙ (one_tree_lem sheet room).0

  pub row_from_step_3 : number_at 4 after 5 ≡ Trees.trees_of 1 5 3
  row_from_step_3 = ap (λ (l : List ℕ). number_at 4 l 5) promised.stored ∙ (one_tree_lem sheet room).1

  -- not rounded down; not the measured trees in hundredths, p and q left out; not in whole trees
  pub no_other_trees : (t : Totals) → r ≡ totalled t → (t.trees ≡ 166 → ⊥) × (t.trees ≡ 100 → ⊥) × (t.trees ≡ 2 → ⊥)
  no_other_trees t e = let are : t.trees ≡ 167 = figure_is (sym (ap trees_back e) ∙ trees_from_step_3) in omega arith

module _ {sheet after : List ℕ} {r : Answer} (room : sheet_length ≤ length sheet) (promised : Promised listing sheet r after) where
  -- the promised answer and the promised sheet
  answer_is : r ≡ totalled listing_totals
  answer_is = promised.answered ∙ listing_totalled sheet room

  totals_are : (t : Totals) → r ≡ totalled t → t ≡ listing_totals
  totals_are t e = cc answer_is

  sheet_is : after ≡ row_bytes row1 ++ row_bytes row2 ++ drop (2 * row_length) sheet
  sheet_is = promised.stored ∙ listing_sheet sheet room

  first_row : take row_length after ≡ row_bytes row1
  unfolding row_bytes
  first_row = ap (take row_length) sheet_is

  -- "a reader that declines every book": the last of the six first, since two of the others are cases of it
  pub not_declined : (n at : ℕ) → r ≡ refused_at n at → ⊥
  not_declined n at e = let clash : ◌≡◌ {A = ℕ} 0 1 = cc answer_is in omega arith

  -- "A sheet whose first line is worked and whose later rows repeat it": the second row is of stratum 2
  pub not_repeated : take row_length (drop row_length after) ≡ take row_length after → ⊥
  unfolding row_bytes
  not_repeated e =
      let strata : ◌≡◌ {A = ℕ} 2 1 = ap (λ (l : List ℕ). byte l 0) (rw sheet_is at e) in
      omega arith

  -- nor does it repeat the first one's figures under its own stratum and species
  pub figures_not_repeated : take 23 (drop (row_length + 2) after) ≡ take 23 (drop 2 after) → ⊥
  unfolding row_bytes
  figures_not_repeated e =
      let tariffs : ◌≡◌ {A = ℕ} 0 26 = ap (λ (l : List ℕ). byte l 0) (rw sheet_is at e) in
      omega arith

  -- "a survey that swallows commands unchanged": where the end is swallowed with them, the whole book is read, and there is no more
  pub not_all_swallowed : r ≡ refused_at 1 (length listing) → ⊥
  not_all_swallowed e = not_declined 1 (length listing) e

  -- and where all but the end are, no line is closed
  pub lines_not_swallowed : (t : Totals) → r ≡ totalled t → t.rows ≡ 0 → ⊥
  lines_not_swallowed t e none_closed =
      let two : t.rows ≡ 2 = ap (λ (t : Totals). t.rows) (totals_are t e) in
      omega arith

  -- "one row for all books"
  pub not_one_row : {sheet' after' : List ℕ} {r' : Answer} → sheet_length ≤ length sheet' → Promised second_line sheet' r' after'
      → (row : List ℕ) → take row_length after ≡ row → take row_length after' ≡ row → ⊥
  unfolding row_bytes
  not_one_row {sheet'} room' promised' row e e' =
      let second = ap (take row_length) (promised'.stored ∙ second_sheet sheet' room') in
      let strata : ◌≡◌ {A = ℕ} 1 2 = ap (λ (l : List ℕ). byte l 0) (sym first_row ∙ e ∙ sym e' ∙ second) in
      omega arith

  -- "'32 lines' or 'over the limit' told of a survey below it"
  pub limit_not_told : (at : ℕ) → r ≡ refused_at 11 at → ⊥
  limit_not_told at e = not_declined 11 at e

  -- ---- "A low of 0 with a vast high falls to both 2 and 3."

  -- to 2
  pub low_not_zero : (t : Totals) → r ≡ totalled t → t.carbon.low.0 ≡ 0 → ⊥
  low_not_zero t e zero_low =
      let low : t.carbon.low.0 ≡ 92196262 = ap (λ (t : Totals). t.carbon.low.0) (totals_are t e) in
      omega arith

-- To 3, alone: with a low of 0 the high is at most 3 + 2400 div 1000, which is 5, and the exact value, of a tree that uses no power, is above that
pub zero_low_not_demand_3 : (high : ℕ) → Demand3 (lines_of listing) 0 high → ⊥
unfolding trees_added exact_of exact_sum exact_total exact_stem exact_crown exact_root
zero_low_not_demand_3 high demand =
    let d : Demand3 listing_lines 0 high = rw listing_lines_lem at demand in
    let high_at_most_5 : high ≤ 5 = d.gap in
    (≼_trans {z = whole (pos 5)} (lit< tt) (d.not_over_the_high any no_powers) (record { cross = pos_le (omega arith) })).cross.le
  where
    one : Given
    one = record { r = 1; t = 1; t_at_least_1 = lit≤ tt }

    any : Fractions
    any = record { crown = λ i. one; root = λ i. one }

    no_powers : NoneAbove any listing_lines
    no_powers zero some = record { on_crown = λ (h : 6000 ≤ crown_limit). absurd (omega arith); on_root = λ (h : 6000 ≤ root_limit). absurd (omega arith) }
    no_powers (suc zero) some = absurd (omega arith)
    no_powers (suc (suc i)) some = absurd (omega arith)
