-- "The crew's order is chance. Two people call out diameters and a third writes. Show that two books which differ only in the order of the measured, height and
-- small-tree commands inside each line are accepted together, and then give the same sheet and the same project figures. (Here and below, two books set side by
-- side are lent equal sheets.)" (Document 02, Q-2.)
use Rattle.std.specs.Prelude.{ℕ, zero, suc, ◌+◌, ◌≡◌, Bool, true, false, cond, List, [], ◌∷◌, ◌++◌}
use Rattle.biomass.specs.Report.{gives}
use Rattle.codec.specs.Bytes.{AllBytes}
use Rattle.codec.specs.declared.command.Command.{Command}
use Rattle.codec.specs.declared.command.Command.TheVariants.{Species, Factor, Open, Measured, Height, Close, End, Small}
use Rattle.survey.specs.Reader.{read_all}
use Rattle.survey.specs.Total.{Answer, refused_at, totalled}
use Rattle.survey.specs.declared.total.Totals.{Totals}

-- ---- "which differ only in the order of the measured, height and small-tree commands inside each line"

-- "the measured, height and small-tree commands"
abbrev pub of_line : Command → Bool
of_line (Measured class count) = true
of_line (Height cm tenths) = true
of_line (Small carbon count) = true
of_line (Species id species) = false
of_line (Factor cm factor) = false
of_line (Open stratum species p q) = false
of_line Close = false
of_line End = false

-- "inside each line": what opens or closes a line or ends the book parts what stands before it from what stands after. A declaration, 01 or 02, does not: it may
-- stand inside a line, and is of none
abbrev pub parts : Command → Bool
parts (Open stratum species p q) = true
parts Close = true
parts End = true
parts (Measured class count) = false
parts (Height cm tenths) = false
parts (Small carbon count) = false
parts (Species id species) = false
parts (Factor cm factor) = false

-- the commands that are of no line
unfoldable pub others : List Command → List Command
others [] = []
others (c ∷ cs) = cond (of_line c) (others cs) (c ∷ others cs)

-- a line's commands in one stretch: those that have i commands before them that part
unfoldable pub in_stretch : ℕ → List Command → List Command
in_stretch i [] = []
in_stretch zero (c ∷ cs) = cond (parts c) [] (cond (of_line c) (c ∷ in_stretch zero cs) (in_stretch zero cs))
in_stretch (suc i) (c ∷ cs) = cond (parts c) (in_stretch i cs) (in_stretch (suc i) cs)

-- the same commands in any order: whatever is asked of a command, as many of the one as of the other are such
unfoldable pub how_many : (Command → Bool) → List Command → ℕ
how_many such [] = 0
how_many such (c ∷ cs) = cond (such c) 1 0 + how_many such cs

pub record SameBag (cs ds : List Command) : Type 0 where
  pub as_many : (such : Command → Bool) → how_many such cs ≡ how_many such ds

-- so line by line: in each stretch the line's commands are the same in any order, and all others are the same in their order
pub record SameLines (cs ds : List Command) : Type 0 where
  pub same_others : others cs ≡ others ds
  pub same_stretches : (i : ℕ) → SameBag (in_stretch i cs) (in_stretch i ds)

-- And by exchanges, one after the other, of a line's command with its neighbour, where that is another or a declaration: nothing passes an opening, a closing or the
-- end. Each says what the other does (Law.Lines: lines_reordered, reordered_lines)
pub data Reordered : List Command → List Command → Type 0 where
  as_it_was : (cs : List Command) → Reordered cs cs
  exchange : (before : List Command) (a b : Command) (after : List Command) → of_line a ≡ true → parts b ≡ false
      → Reordered (before ++ a ∷ b ∷ after) (before ++ b ∷ a ∷ after)
  back : {cs ds : List Command} → Reordered cs ds → Reordered ds cs
  and_then : {cs ds es : List Command} → Reordered cs ds → Reordered ds es → Reordered cs es

-- two books, which are bytes, by the commands that they read as
pub record OtherOrder (a b : List ℕ) : Type 0 where
  pub bytes_a : AllBytes a
  pub bytes_b : AllBytes b
  pub first : List Command
  pub second : List Command
  pub reads_a : read_all a ≡ gives first
  pub reads_b : read_all b ≡ gives second
  pub same_lines : SameLines first second

-- ---- "are accepted together, and then give the same sheet and the same project figures"

-- Two answers, and what each book left of the sheet that it was lent. Both are accepted, with the same rows, trees and project figures and the same bytes in the
-- sheet; or both are refused, and the sheet is as it was. The number and the place may differ: of two commands that are both wrong, the first is told
-- (Law.Witness: refusals_differ)
pub data Together (sheet : List ℕ) : Answer → List ℕ → Answer → List ℕ → Type 0 where
  both_accepted : (t : Totals) (after : List ℕ) → Together sheet (totalled t) after (totalled t) after
  both_refused : (n at m place : ℕ) → Together sheet (refused_at n at) sheet (refused_at m place) sheet
