-- What a command that is taken changes, of any survey, valid or not: a species, a factor, the line or the rows, each with what the checks say of it that
-- the command passed. Only `effect` goes by command: what holds of every command that is taken is shown of these four (Law.Stable, Law.Valid, Law.Witness,
-- Law.Closings, Law.Rows, Law.Recorded).
use Rattle.std.specs.Prelude.{ℕ, ◌+◌, ◌<◌, ◌≡◌, refl, Bool, true, false, List, [], Option, None, Some, is_some, leb, ltb}
use Rattle.std.proofs.Common.{zero-le, arith, ◌∙◌, sym, ap, subst, true≢false, leb-true, leb-false, ltb-false}
use Rattle.biomass.specs.Bounds.{Inside}
use Rattle.biomass.specs.Whole.{inside}
use Rattle.biomass.specs.Report.{Report, gives}
use Rattle.biomass.specs.Limits.{most_measured, most_heights, most_small, greatest_carbon}
use Rattle.biomass.proofs.Law.Report.{inside_true}
use Rattle.biomass.proofs.Law.Tariff.{single_tariff_range}
use Rattle.codec.specs.Command.{Fits}
use Rattle.line.specs.Line.{line_with, new_line, with_trees, with_height, with_small, tariff_of, add_small, factor_at}
use Rattle.survey.specs.Survey.{declared_with, species_at, with_state, with_species, with_factor, with_line, with_row, with_end, declare, give_factor, opened, open_line, give_small, end}
use Rattle.rules.specs.Checks.{most_lines, species_in_range, opening}
use Rattle.survey.specs.Closings.{Closing, of_open, closing}
use Rattle.survey.specs.Recorded.{trees_in}
use Rattle.survey.specs.Apply.{on_line, apply_measured, apply_height, apply_close, apply}
use Rattle.line.specs.AnyLine.{add_trees, add_height}
use Rattle.survey.specs.Valid.{ValidSpecies, ValidTally, ValidHeights, ValidSmall, ValidLine, Valid}
use Rattle.rules.proofs.Law.Passed.{Gives, gives_such, when_such, then_such, given_such, passed}
use Rattle.rules.proofs.Law.Opening.{opening_passes}
use Rattle.survey.proofs.Law.Checks.{none_is_some, some_is, nothing_there, up_to_15, declared_is, species_in_range_lem}
use Rattle.survey.proofs.Law.AsWritten.{tallied_valid, heights_valid, small_given_lem}
use Rattle.codec.specs.declared.command.Species.{Species}
use Rattle.codec.specs.declared.command.Command.{Command}
use Rattle.line.specs.declared.row.Row.{Row}
use Rattle.line.specs.declared.line.Tally.{Tally}
use Rattle.line.specs.declared.line.Heights.{Heights}
use Rattle.line.specs.declared.line.SmallTrees.{SmallTrees}
use Rattle.line.specs.declared.line.Line.{Line}
use Rattle.survey.specs.declared.survey.Survey.{Survey}

-- ---- the four

-- a species and a factor in their ranges, of which none was given before
pub record NewSpecies (id : ℕ) (x : Species) (s : Survey) : Type 0 where
  pub in_table : Inside 0 id 15
  pub in_range : ValidSpecies x
  pub new : species_at s id ≡ None

pub record NewFactor (cm x : ℕ) (s : Survey) : Type 0 where
  pub whole_cm : Inside 7 cm 100
  pub hundredths : Inside 100 x 200
  pub new : factor_at s.factors cm ≡ None

-- how many trees are noted of the open line, if one is open
abbrev pub noted : Option Line → ℕ
noted None = 0
noted (Some l) = l.tally.n + l.small.count

-- What follows the survey's line, a line or none, and whether the book has ended. After a valid survey these may stand in a valid one; the stratum is that of the
-- line before, or one that the command gives; of trees so many more are noted as the command records; and not both of them are as before
pub record Follows (c : Command) (s : Survey) (next : Option Line) (ended : Bool) : Type 0 where
  pub room : Valid s → (l : Line) → next ≡ Some l → s.closed < most_lines
  pub line : Valid s → (l : Line) → next ≡ Some l → ValidLine s l
  pub finished : Valid s → ended ≡ true → next ≡ None
  pub stratum : Fits c → ((l : Line) → s.line ≡ Some l → l.stratum < 256) → (l : Line) → next ≡ Some l → l.stratum < 256
  pub trees : noted next ≡ noted s.line + trees_in c
  pub changed : with_state s next ended ≡ s → ⊥

-- The survey after the command, with one of these changed; and the closing that the command is, if it is one (`closing` of specs/Closings.antt). A species or
-- a factor is given that was not given before, a line follows, or a row is put after those that stand. Where it is not the line that is changed, no trees are
-- recorded
pub data Effect (c : Command) (s : Survey) : Survey → List Closing → Type 0 where
  a_species : {id : ℕ} {x : Species} → NewSpecies id x s → trees_in c ≡ 0 → Effect c s (with_species s id x) []
  a_factor : {cm x : ℕ} → NewFactor cm x s → trees_in c ≡ 0 → Effect c s (with_factor s cm x) []
  the_line : {next : Option Line} {ended : Bool} → Follows c s next ended → Effect c s (with_state s next ended) []
  a_row : (r : Row) → apply Command.Close s ≡ gives (with_row s r) → trees_in c ≡ 0 → Effect c s (with_row s r) (of_open s)

-- ---- what the checks say

module _ {c : Command} (s : Survey) (none_recorded : trees_in c ≡ 0) where
  species_given : (id : ℕ) (x : Species) → species_in_range id x ≡ true → is_some (declared_with id s) ≡ false → Effect c s (with_species s id x) []
  species_given id x range new =
      let ranges = species_in_range_lem id x range in
      a_species (record { in_table = ranges.0; in_range = ranges.1; new = sym (up_to_15 id s ranges.0.most) ∙ nothing_there (declared_with id s) new }) none_recorded

  factor_given : (cm x : ℕ) → inside 7 cm 100 ≡ true → inside 100 x 200 ≡ true → is_some (factor_at s.factors cm) ≡ false → Effect c s (with_factor s cm x) []
  factor_given cm x in_cm in_factor new =
      a_factor (record {
        whole_cm = inside_true 7 cm 100 in_cm;
        hundredths = inside_true 100 x 200 in_factor;
        new = nothing_there (factor_at s.factors cm) new;
      }) none_recorded

  -- a line is opened, and its stratum is a byte of the command
  line_opened : (stratum id p q : ℕ) (x : Species) → (Fits c → stratum < 256) → s.ended ≡ false
      → opening p q (is_some s.line) (declared_with id s) (opened stratum id s) s.closed ≡ gives x → Effect c s (with_line s (new_line stratum id x p q)) []
  line_opened stratum id p q x byte not_ended opens =
      let o = opening_passes p q (is_some s.line) (declared_with id s) (opened stratum id s) s.closed x opens in
      the_line (record {
        room = λ v l is. o.room;
        line = λ v l is.
            subst (ValidLine s) (some_is is) (record {
              species = (declared_is id s x o.is_declared).1;
              p = o.p_in_range;
              q = o.q_in_range;
              plots = o.plots;
              tally = record { few = zero-le; squares = omega arith };
              heights = record { few = zero-le; tariffs = omega arith };
              small = record { few = zero-le; some = λ counted. absurd (omega arith); light = zero-le };
              first = o.first;
            });
        finished = λ v ended. absurd (true≢false (sym ended ∙ not_ended));
        stratum = λ fits before l is. subst (λ (m : Line). m.stratum < 256) (some_is is) (byte fits);
        trees = omega (arith, none_recorded, ap noted (nothing_there s.line o.none_open));
        changed = λ same. true≢false (ap (λ (x : Survey). is_some x.line) same ∙ o.none_open);
      })

  -- the book ends where no line is open
  book_ended : s.ended ≡ false → is_some s.line ≡ false → Effect c s (with_end s) []
  book_ended not_ended none_open =
      the_line (record {
        room = λ v. v.room;
        line = λ v. v.line;
        finished = λ v ended. nothing_there s.line none_open;
        stratum = λ fits before. before;
        trees = omega (arith, none_recorded);
        changed = λ same. true≢false (ap (λ (x : Survey). x.ended) same ∙ not_ended);
      })

-- other measured, height or small trees are noted of the open line, within the limits where those before were
module _ {c : Command} (s : Survey) (l : Line) (is_open : s.line ≡ Some l) where
  line_noted : (tally : Tally) (heights : Heights) (small : SmallTrees) → (ValidTally l.tally → ValidTally tally)
      → (ValidHeights l.heights → ValidHeights heights) → (ValidSmall l.small → ValidSmall small)
      → tally.n + small.count ≡ l.tally.n + l.small.count + trees_in c → (line_with l tally heights small ≡ l → ⊥)
      → Effect c s (with_line s (line_with l tally heights small)) []
  line_noted tally heights small in_tally in_heights in_small trees changed =
      the_line (record {
        room = λ v m is. v.room l is_open;
        line = λ v m is.
            let before = v.line l is_open in
            subst (ValidLine s) (some_is is) (record {
              species = before.species;
              p = before.p;
              q = before.q;
              plots = before.plots;
              tally = in_tally before.tally;
              heights = in_heights before.heights;
              small = in_small before.small;
              first = before.first;
            });
        finished = λ v ended. none_is_some (sym (v.finished ended) ∙ is_open);
        stratum = λ fits before m is. subst (λ (x : Line). x.stratum < 256) (some_is is) (before l is_open);
        trees = trees ∙ ap (λ (o : Option Line). noted o + trees_in c) (sym is_open);
        changed = λ same. changed (some_is (ap (λ (x : Survey). x.line) same ∙ is_open));
      })

  trees_added : (class count : ℕ) → trees_in c ≡ count → inside 7 class 100 ≡ true → leb 1 count ≡ true → leb (l.tally.n + count) most_measured ≡ true
      → Effect c s (with_line s (with_trees class count l)) []
  trees_added class count records in_class some few =
      line_noted _ _ _
      (λ before. tallied_valid l.tally class count before (inside_true 7 class 100 in_class) (leb-true (l.tally.n + count) most_measured few))
      (λ before. before) (λ before. before) (omega (arith, records))
      (λ same. let none : l.tally.n + count ≡ l.tally.n = ap (λ (m : Line). m.tally.n) same in omega (arith, leb-true 1 count some))

  height_added : (cm tenths T : ℕ) → trees_in c ≡ 0 → tariff_of l.species cm tenths ≡ gives T → leb most_heights l.heights.number ≡ false
      → Effect c s (with_line s (with_height T l)) []
  height_added cm tenths T none_recorded gave room =
      let x = l.species.constants in
      let in_range = single_tariff_range x.c1 x.c2 x.c3 x.c4 cm tenths T gave in
      line_noted _ _ _ (λ before. before)
      (λ before. heights_valid l.heights T before in_range (leb-false most_heights l.heights.number room)) (λ before. before) (omega (arith, none_recorded))
      (λ same. let none : l.heights.number + 1 ≡ l.heights.number = ap (λ (m : Line). m.heights.number) same in omega arith)

  small_added : (carbon count : ℕ) → trees_in c ≡ count → inside 1 carbon greatest_carbon ≡ true → inside 1 count most_small ≡ true → ltb 0 l.small.count ≡ false
      → Effect c s (with_line s (with_small carbon count l)) []
  small_added carbon count records in_carbon in_count none =
      line_noted _ _ _ (λ before. before) (λ before. before) (λ before. small_given_lem carbon count in_carbon in_count)
      (omega (arith, records, ltb-false 0 l.small.count none))
      (λ same.
      let again : count ≡ l.small.count = ap (λ (m : Line). m.small.count) same in
      omega (arith, (inside_true 1 count most_small in_count).least, ltb-false 0 l.small.count none))

-- ---- by command

-- closing puts some row after those that stand
record RowAdded (s t : Survey) : Type 0 where
  row : Row
  is : t ≡ with_row s row

some_row : (s : Survey) (r : Row) → RowAdded s (with_row s r)
some_row s r = record { row = r; is = refl }

closes : (s : Survey) → Gives (RowAdded s) (apply_close s)
unfolding apply_close
closes s = search (passed, some_row) depth 12

ruleset checked = (passed, species_given, factor_given, line_opened, trees_added, height_added, small_added, book_ended)

-- what a command of the open line makes of the line
updated : {c : Command} (s : Survey) (note : Line → Report Line) → ((l : Line) → s.line ≡ Some l → Gives (λ m. Effect c s (with_line s m) []) (note l))
    → Gives (λ t. Effect c s t []) (on_line note s)
updated {c} s note h =
    let such : Survey → Type 0 = λ t. Effect c s t [] in
    when_such such s.ended 5 _ (λ not_ended.
    given_such such s.line 10 _ (λ l is_open.
    then_such such (note l) _ (λ m gave. gives_such such (with_line s m) (h l is_open m gave))))

-- every command that is taken changes one of the four. That 04 and 08 record their counts stands by itself, so that an edit which makes it false is told what
-- differs
pub effect : (c : Command) (s : Survey) → Gives (λ t. Effect c s t (closing c s)) (apply c s)
unfolding declare give_factor open_line apply_measured add_trees apply_height add_height end give_small add_small
effect (Command.Species id x) s = search checked depth 12
effect (Command.Factor cm x) s = search checked depth 12
effect (Command.Open stratum id p q) s = let byte : Fits (Command.Open stratum id p q) → stratum < 256 = λ fits. fits.0 in search checked depth 12
effect (Command.Measured class count) s =
    let records : trees_in (Command.Measured class count) ≡ count = refl in updated s (add_trees class count) (λ l is_open. search checked depth 12)
effect (Command.Height cm tenths) s = updated s (add_height cm tenths) (λ l is_open. search checked depth 12)
effect Command.Close s = λ t e.
    let g = closes s t e in
    subst (λ (x : Survey). Effect Command.Close s x (of_open s)) (sym g.is) (a_row g.row (e ∙ ap gives g.is) refl)
effect Command.End s = search checked depth 12
effect (Command.Small carbon count) s =
    let records : trees_in (Command.Small carbon count) ≡ count = refl in updated s (add_small carbon count) (λ l is_open. search checked depth 12)
