-- Demand 3, undivided. "Demand 3 is one statement over all books that the rules below accept and all lent sheets, whatever they held, that do not get 16;
-- it is not one for each line or step." Totalling promises it of every book and every lent sheet. The exact value of one line is line/specs/Exact.antt; when a
-- fraction is not above or not below a power, biomass/specs/Exact.antt.
use Rattle.std.specs.Prelude.{ℕ, suc, ◌+◌, ◌/◌, ◌≤◌, ◌<◌, ◌≡◌, List, [], ◌∷◌, map, get_or, pos}
use Rattle.biomass.specs.Fraction.{Fraction, whole, ◌⊕◌, ◌⊗◌, ◌over◌, ◌≼◌}
use Rattle.biomass.specs.Exact.{Given, NotBelow, NotAbove}
use Rattle.line.specs.Line.{Estimate, no_trees, both_numbers}
use Rattle.line.specs.Exact.{exact_of}
use Rattle.survey.specs.Closings.{estimate_of, closings_of}
use Rattle.survey.specs.Total.{Answer, refused_at, totalled}

-- ---- the lines of an accepted book

-- "taking T, d, N, f and s of each line": what is estimated of each line of a book that is accepted, in closing order
unfoldable pub lines_of : List ℕ → List Estimate
lines_of book = map estimate_of (closings_of book)

-- "the N of all lines added"; "estimated trees counts both sorts" (document 02, Q-1)
unfoldable pub trees_added : List Estimate → ℕ
trees_added [] = 0
trees_added (l ∷ ls) = both_numbers l + trees_added ls

-- the line with this number, counted from 0; past the last one there are no trees
abbrev pub line_at : List Estimate → ℕ → Estimate
line_at ls i = get_or ls i no_trees

-- "every N is 0"; "neither measured nor small trees are estimated" (document 02, Q-1)
abbrev pub NoneEstimated : List Estimate → Type 0
NoneEstimated ls = (i : ℕ) → ((line_at ls i).measured.N ≡ 0) × ((line_at ls i).small.number ≡ 0)

-- ---- the exact value

-- "Each line with N above 0 is given a fraction of its own for each power that its tree uses": the fractions by the line's number
pub record Fractions : Type 0 where
  pub crown : ℕ → Given
  pub root : ℕ → Given

-- those of the lines after the first
abbrev pub after_first : Fractions → Fractions
after_first g = record { crown = λ i. g.crown (suc i); root = λ i. g.root (suc i) }

-- "the sum, over the lines with N above 0, of N/100 times one tree's biomass in mg", and beside it of every line's small trees (line/specs/Exact.antt): the first
-- line's, with its own fractions, and that of the lines after it
unfoldable pub exact_sum : Fractions → List Estimate → Fraction
exact_sum g [] = whole (pos 0)
exact_sum g (l ∷ ls) = exact_of l (g.crown 0) (g.root 0) ⊕ exact_sum (after_first g) ls

-- "the total is the exact value, its 11/6000 included, with these in place of the powers"
unfoldable pub exact_total : Fractions → List Estimate → Fraction
exact_total g ls = whole (pos 11) over 6000 ⊗ exact_sum g ls

-- "fractions not below the powers", and "not above": for every line with measured trees estimated, its own fractions are so for its own tree. A line without
-- them has no tree and is given none
abbrev pub NoneBelow : Fractions → List Estimate → Type 0
NoneBelow g ls = (i : ℕ) → 0 < (line_at ls i).measured.N → NotBelow (line_at ls i).measured.tree (g.crown i) (g.root i)

abbrev pub NoneAbove : Fractions → List Estimate → Type 0
NoneAbove g ls = (i : ℕ) → 0 < (line_at ls i).measured.N → NotAbove (line_at ls i).measured.tree (g.crown i) (g.root i)

-- ---- the demand

pub record Demand3 (lines : List Estimate) (low high : ℕ) : Type 0 where
  -- "they are equal exactly when every N is 0"
  pub equal_only_when : low ≡ high → NoneEstimated lines
  pub equal_when : NoneEstimated lines → low ≡ high
  -- "the high is at most the low + 3 + (the N of all lines added) div 1000"
  pub gap : high ≤ low + 3 + trees_added lines / 1000
  -- "'Not under the low': whatever fractions not below the powers are given, the total is at least the low."
  pub not_under_the_low : (g : Fractions) → NoneBelow g lines → whole (pos low) ≼ exact_total g lines
  -- "'Not over the high': whatever fractions not above the powers are given, the total is at most the high."
  pub not_over_the_high : (g : Fractions) → NoneAbove g lines → exact_total g lines ≼ whole (pos high)

-- "It is about the project low and high that totalling returns": of what a book is answered. A refused book has no figures
abbrev pub Demanded : List ℕ → Answer → Type 0
Demanded book (refused_at n at) = Unit
Demanded book (totalled t) = Demand3 (lines_of book) t.carbon.low.0 t.carbon.high.0
