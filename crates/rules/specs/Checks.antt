-- "What each operation may decline", of a declaration, an opening and the end: the checks in the order of documents 01 and 02, each over the values that it
-- looks at. Those of the open line's own commands and of a closing are survey/specs/Survey.antt.
use Rattle.std.specs.Prelude.{ℕ, Bool, false, cond, List, Option, leb, ltb, eqb, ◌&&◌}
use Rattle.std.specs.List.{list_any}
use Rattle.biomass.specs.Whole.{inside}
use Rattle.biomass.specs.Report.{Report, gives, unless, when, ◌then◌, given}
use Rattle.biomass.specs.Limits.{greatest_area}
use Rattle.codec.specs.declared.command.Species.{Species}
use Rattle.line.specs.declared.row.Row.{Row}

-- "Limits: 32 lines"
abbrev pub most_lines : ℕ
most_lines = 32

-- "id (1 byte, 0 to 15), crown group (1, 0 to 7), root group (1, 0 to 5), specific gravity in hundredths (1, 1 to 100), c1 c2 c3 c4 (.. any value)"
abbrev pub species_in_range : ℕ → Species → Bool
species_in_range id s = cond (inside 0 id 15) (cond (inside 0 s.crown 7) (cond (inside 0 s.root 5) (inside 1 s.gravity 100) false) false) false

-- "Species and factor: 6 operand outside its range; 7 already given."
abbrev pub declaring : {A : Type 0} → ℕ → Species → Bool → Report A → Report A
declaring id species given next =
    unless (species_in_range id species) 6
    (when given 7
    next)

-- "whole cm (1, 7 to 100), factor in hundredths (1, 100 to 200)"
abbrev pub giving : {A : Type 0} → ℕ → ℕ → Bool → Report A → Report A
giving cm factor given next =
    unless (inside 7 cm 100) 6
    (unless (inside 100 factor 200) 6
    (when given 7
    next))

-- "7 same stratum and species already opened": where no line is open, those opened are those closed, and each has its row
abbrev pub is_line : ℕ → ℕ → Row → Bool
is_line stratum id r = eqb r.stratum stratum && eqb r.species id

abbrev pub any_line : ℕ → ℕ → List Row → Bool
any_line stratum id rows = list_any (is_line stratum id) rows

-- "03 open a line: stratum (1, any), species (1), p (4), q (4), both 1 to 100,000,000."
abbrev pub areas_in_range : ℕ → ℕ → Bool
areas_in_range p q = cond (inside 1 p greatest_area) (inside 1 q greatest_area) false

-- "q above p" (document 02, Q-4)
abbrev pub plots_above : ℕ → ℕ → Bool
plots_above p q = ltb p q

-- "Opening: 6; 9 a line is open; 8 species undeclared, an id above 15 included; 7 same stratum and species already opened; 11 32 lines opened." "Opening a
-- line now tests that p is at least q. .. (17: q above p, after 6 and before 9.)" (Document 02, Q-4.) `there`: what the species was declared with, where it
-- was; with it the line is opened
abbrev pub opening : ℕ → ℕ → Bool → Option Species → Bool → ℕ → Report Species
opening p q is_open there before closed =
    unless (areas_in_range p q) 6
    (when (plots_above p q) 17
    (when is_open 9
    (given there 8 then λ x.
    when before 7
    (when (leb most_lines closed) 11
    (gives x)))))

-- "Ending: 9."
abbrev pub ending : {A : Type 0} → Bool → Report A → Report A
ending is_open next = when is_open 9 next
