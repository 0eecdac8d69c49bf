-- Valid surveys: what holds of a fresh survey and is kept by every command (Law.Valid), so that it holds of every survey that a book reaches.
use Rattle.std.specs.Prelude.{ℕ, ◌*◌, ◌≤◌, ◌<◌, ◌≡◌, true, false, List, [], ◌∷◌, length, get_or, None, Some}
use Rattle.powers.specs.Diameter.{greatest_d}
use Rattle.biomass.specs.Limits.{most_measured, most_heights, greatest_area, most_small, greatest_carbon}
use Rattle.biomass.specs.Bounds.{Inside}
use Rattle.line.specs.Line.{factor_at}
use Rattle.line.specs.Bounds.{LineBounds, most_of_both}
use Rattle.survey.specs.Survey.{no_row, species_at, rows_of, opened}
use Rattle.rules.specs.Checks.{most_lines, any_line}
use Rattle.codec.specs.declared.command.Species.{Species}
use Rattle.line.specs.declared.row.Row.{Row}
use Rattle.line.specs.declared.line.Tally.{Tally}
use Rattle.line.specs.declared.line.Heights.{Heights}
use Rattle.line.specs.declared.line.SmallTrees.{SmallTrees}
use Rattle.line.specs.declared.line.Line.{Line}
use Rattle.survey.specs.declared.survey.Survey.{Survey}

-- a species in its ranges
pub record ValidSpecies (s : Species) : Type 0 where
  pub crown : Inside 0 s.crown 7
  pub root : Inside 0 s.root 5
  pub gravity : Inside 1 s.gravity 100

-- a factor in its ranges
pub record ValidFactor (cm factor : ℕ) : Type 0 where
  pub whole_cm : Inside 7 cm 100
  pub hundredths : Inside 100 factor 200

-- measured trees: up to 1,000,000, each of 7 to 100 cm
pub record ValidTally (t : Tally) : Type 0 where
  pub few : t.n ≤ most_measured
  pub squares : Inside (49 * t.n) t.squares (10000 * t.n)

-- height trees: up to 1,000, each with a tariff of 1 to 50
pub record ValidHeights (h : Heights) : Type 0 where
  pub few : h.number ≤ most_heights
  pub tariffs : Inside h.number h.tariffs (50 * h.number)

-- small trees: up to 1,000,000, each of 1 mg of carbon and more, as far as its 4 bytes go; or none
pub record ValidSmall (t : SmallTrees) : Type 0 where
  pub few : t.count ≤ most_small
  pub some : 0 < t.count → 1 ≤ t.carbon
  pub light : t.carbon ≤ greatest_carbon

-- an open line: its species is the survey's, and what is noted of it is within the limits
pub record ValidLine (s : Survey) (l : Line) : Type 0 where
  pub species : species_at s l.id ≡ Some l.species
  pub p : Inside 1 l.p greatest_area
  pub q : Inside 1 l.q greatest_area
  -- "p is at least q" (document 02, Q-4)
  pub plots : l.q ≤ l.p
  pub tally : ValidTally l.tally
  pub heights : ValidHeights l.heights
  pub small : ValidSmall l.small
  -- no line of the same stratum and species was closed before
  pub first : opened l.stratum l.id s ≡ false

-- a row's figures are within those of the greatest line
pub record Within (r : Row) : Type 0 where
  pub species : r.species ≤ 15
  pub tariff : r.tariff ≤ 50
  pub d : r.d ≤ greatest_d
  pub trees : r.trees ≤ most_of_both
  pub biomass : LineBounds r.trees r.biomass

-- no two rows are of the same stratum and species
pub data Apart : List Row → Type 0 where
  none : Apart []
  more : (r : Row) (l : List Row) → any_line r.stratum r.species l ≡ false → Apart l → Apart (r ∷ l)

abbrev pub row_at : Survey → ℕ → Row
row_at s i = get_or s.rows i no_row

pub record Valid (s : Survey) : Type 0 where
  -- the tables are as long as the code's arrays
  pub ids : length s.species ≡ 16
  pub cms : length s.factors ≡ 101
  pub places : length s.rows ≡ most_lines
  pub species : (id : ℕ) (x : Species) → species_at s id ≡ Some x → ValidSpecies x
  pub factors : (cm x : ℕ) → factor_at s.factors cm ≡ Some x → ValidFactor cm x
  -- "32 lines": the closed ones, and the open one
  pub lines : s.closed ≤ most_lines
  pub room : (l : Line) → s.line ≡ Some l → s.closed < most_lines
  pub rows : (i : ℕ) → i < s.closed → Within (row_at s i)
  pub apart : Apart (rows_of s)
  pub line : (l : Line) → s.line ≡ Some l → ValidLine s l
  pub finished : s.ended ≡ true → s.line ≡ None
