-- A line: what is noted of it while it is open, what that comes to, and the row that it leaves. "n is the line's measured count, S the sum of count times
-- class squared."
use Rattle.std.specs.Prelude.{ℕ, ◌+◌, ◌*◌, ◌/◌, List, get_or, Option, None, ltb}
use Rattle.biomass.specs.Whole.{inside}
use Rattle.biomass.specs.Report.{Report, gives, unless, when}
use Rattle.biomass.specs.Limits.{most_small, greatest_carbon}
use Rattle.powers.specs.Diameter.{units_to_cm}
use Rattle.biomass.specs.Tariff.{single_tariff}
use Rattle.biomass.specs.Mean.{mean_of}
use Rattle.biomass.specs.Trees.{trees_of}
use Rattle.biomass.specs.Ends.{between}
use Rattle.biomass.specs.Tree.{average_tree, tree_of, row_of}
use Rattle.biomass.specs.SmallTrees.{small_of}
use Rattle.biomass.specs.Units.{BiomassRange}
use Rattle.biomass.specs.declared.tree.AverageTree.{AverageTree}
use Rattle.codec.specs.declared.command.Species.{Species}
use Rattle.line.specs.declared.row.Row.{Row}
use Rattle.line.specs.declared.line.Tally.{Tally}
use Rattle.line.specs.declared.line.Heights.{Heights}
use Rattle.line.specs.declared.line.SmallTrees.{SmallTrees}
use Rattle.line.specs.declared.line.Line.{Line}

-- ---- what is noted of a line

-- the same line with these measured trees, these height trees and these small trees
abbrev pub line_with : Line → Tally → Heights → SmallTrees → Line
line_with l tally heights small =
    record {
      stratum = l.stratum;
      id = l.id;
      species = l.species;
      p = l.p;
      q = l.q;
      tally = tally;
      heights = heights;
      small = small;
    }

-- a line that is just opened
abbrev pub new_line : ℕ → ℕ → Species → ℕ → ℕ → Line
new_line stratum id s p q =
    record {
      stratum = stratum;
      id = id;
      species = s;
      p = p;
      q = q;
      tally = record { n = 0; squares = 0 };
      heights = record { number = 0; tariffs = 0 };
      small = record { carbon = 0; count = 0 };
    }

-- with so many trees of a class more
abbrev pub tallied : ℕ → ℕ → Tally → Tally
tallied class count t = record { n = t.n + count; squares = t.squares + count * (class * class) }

abbrev pub with_trees : ℕ → ℕ → Line → Line
with_trees class count l = line_with l (tallied class count l.tally) l.heights l.small

-- with one height tree more, of this tariff
abbrev pub with_height : ℕ → Line → Line
with_height T l = line_with l l.tally (record { number = l.heights.number + 1; tariffs = l.heights.tariffs + T }) l.small

-- with small trees; a count of 0 stands for none, since one that is given is 1 or more
abbrev pub with_small : ℕ → ℕ → Line → Line
with_small carbon count l = line_with l l.tally l.heights (record { carbon = carbon; count = count })

-- "Command 08 inside an open line gives the carbon of one small tree in mg (4 bytes, 1 and up) and a count (4 bytes, 1 to 1,000,000), at most once a line."
-- "08 is checked for 10, then 6, then 7 where the line has one already" (document 02, Q-1); 10 is the survey's
unfoldable pub add_small : ℕ → ℕ → Line → Report Line
add_small carbon count l =
    unless (inside 1 carbon greatest_carbon) 6
    (unless (inside 1 count most_small) 6
    (when (ltb 0 l.small.count) 7
    (gives (with_small carbon count l))))

-- the single tariff (step 1) of a tree of the line's species; 6, then 13
abbrev pub tariff_of : Species → ℕ → ℕ → Report ℕ
tariff_of s cm tenths = single_tariff s.constants.c1 s.constants.c2 s.constants.c3 s.constants.c4 cm tenths

-- ---- what that comes to: T, d and N of steps 1 to 3, and the number of small trees

abbrev pub T_of : Line → ℕ
T_of l = l.heights.tariffs / l.heights.number

abbrev pub d_of : Line → ℕ
d_of l = mean_of l.tally.n l.tally.squares

abbrev pub N_of : Line → ℕ
N_of l = trees_of l.tally.n l.p l.q

-- "The number is scaled by p and q as in step 3." (Document 02, Q-1.)
abbrev pub small_number_of : Line → ℕ
small_number_of l = trees_of l.small.count l.p l.q

-- the factor at a whole cm, where one was given
abbrev pub factor_at : List (Option ℕ) → ℕ → Option ℕ
factor_at factors cm = get_or factors cm None

-- "the factor is read at d div 100" (document 02, Q-5)
abbrev pub whole_cm : ℕ → ℕ
whole_cm d = d / units_to_cm

abbrev pub factor_for : List (Option ℕ) → ℕ → Option ℕ
factor_for factors d = factor_at factors (whole_cm d)

-- "With f the factor at d div" 100 "cm and s the gravity": one tree of a line
abbrev pub tree_with : Species → ℕ → ℕ → ℕ → AverageTree
tree_with s T d f = average_tree T d f s.gravity s.crown s.root

-- ---- its row

-- what is estimated of a line's measured trees: N, and the average tree with T, d, f and s and the groups of its species
pub record MeasuredPart : Type 0 where
  pub N : ℕ
  pub tree : AverageTree

-- and of its small trees: their number, in hundredths as N is, and the carbon of one of them in mg
pub record SmallPart : Type 0 where
  pub number : ℕ
  pub carbon : ℕ

pub record Estimate : Type 0 where
  pub measured : MeasuredPart
  pub small : SmallPart

-- the small trees of a line, by its count
abbrev pub small_part : Line → SmallPart
small_part l = record { number = small_number_of l; carbon = l.small.carbon }

-- "A line with n = 0 closes with tariff, d, N, low and high all 0 and needs no height tree."
abbrev pub no_measured : MeasuredPart
no_measured = record { N = 0; tree = average_tree 0 0 0 0 0 0 }

abbrev pub no_trees : Estimate
no_trees = record { measured = no_measured; small = record { number = 0; carbon = 0 } }

-- "The row's N becomes the sum of both numbers; steps 3 to 7 .. keep the measured number alone." (Document 02, Q-1.)
abbrev pub both_numbers : Estimate → ℕ
both_numbers e = e.measured.N + e.small.number

-- "The line's low gains ..; its high gains .."
abbrev pub gaining : BiomassRange → BiomassRange → BiomassRange
gaining m small = between (m.low.0 + small.low.0) (m.high.0 + small.high.0)

abbrev pub biomass_of : Estimate → BiomassRange
biomass_of e = gaining (row_of e.measured.N (tree_of e.measured.tree)) (small_of e.small.number e.small.carbon)

-- the line's row with these figures
abbrev pub row_with : Line → ℕ → ℕ → ℕ → BiomassRange → Row
row_with l T d N m = record { stratum = l.stratum; species = l.id; tariff = T; d = d; trees = N; biomass = m }

-- the line's row by steps 4 to 7 and its small trees
abbrev pub estimated_row : Line → Estimate → Row
estimated_row l e = row_with l e.measured.tree.tariff e.measured.tree.d (both_numbers e) (biomass_of e)

-- a row with no figure above 0. That of a line with n = 0 and no small trees is this (survey's Law.AsWritten: row_of_none)
abbrev pub empty_row : Line → Row
empty_row l = row_with l 0 0 0 (between 0 0)
