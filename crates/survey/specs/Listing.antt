-- Document 01's listing: the book that its sentence spells, and what it prints of it. Law.Listing shows that totalling this book gives this.
use Rattle.std.specs.Prelude.{ℕ, List, [], ◌∷◌, pos, neg_ℤ}
use Rattle.biomass.specs.Ends.{between}
use Rattle.survey.specs.Reader.{encode_all}
use Rattle.codec.specs.declared.command.Species as Declared
use Rattle.codec.specs.declared.command.Command.{Command}
use Rattle.codec.specs.declared.command.Command.TheVariants.{Species, Factor, Open, Measured, Height, Close, End}
use Rattle.line.specs.declared.row.Row.{Row}
use Rattle.survey.specs.declared.total.Totals.{Totals}

-- ---- "Book:"

-- "species 3 (crown 7, root 5, gravity 56, constants 58830000, 20123000, −54780, −57397)"
abbrev pub listed : Declared.Species
listed = record { crown = 7; root = 5; gravity = 56; constants = record { c1 = pos 58830000; c2 = pos 20123000; c3 = neg_ℤ (pos 54780); c4 = neg_ℤ (pos 57397) } }

abbrev pub species3 : Command
species3 = Species 3 listed

-- "factor 101 at 60 cm"
abbrev pub factor101 : Command
factor101 = Factor 60 101

-- "line 1 of species 3 with 6 over 1"
abbrev pub line1 : Command
line1 = Open 1 3 6 1

-- "4 trees at 60"
abbrev pub four_trees : Command
four_trees = Measured 60 4

-- "height tree 60 and 120"
abbrev pub height_tree : Command
height_tree = Height 60 120

-- "line 2 of species 3 with 1 over 1"
abbrev pub line2 : Command
line2 = Open 2 3 1 1

-- "species 3 (..), factor 101 at 60 cm, line 1 .., 4 trees at 60, height tree 60 and 120, close, line 2 .., close, end"
abbrev pub listing_commands : List Command
listing_commands = species3 ∷ factor101 ∷ line1 ∷ four_trees ∷ height_tree ∷ Close ∷ line2 ∷ Close ∷ End ∷ []

unfoldable pub listing : List ℕ
listing = encode_all listing_commands

-- ---- what is printed of it

-- "1 3 24.00 50288870208 50288870425". T and d, which are not printed, are those of steps 1 and 2
abbrev pub row1 : Row
row1 = record { stratum = 1; species = 3; tariff = 26; d = 6000; trees = 2400; biomass = between 50288870208 50288870425 }

-- "2 3 0.00 0 0": "A line with n = 0 closes with tariff, d, N, low and high all 0"
abbrev pub row2 : Row
row2 = record { stratum = 2; species = 3; tariff = 0; d = 0; trees = 0; biomass = between 0 0 }

-- "project 24.00 92196262 92196263"
abbrev pub listing_totals : Totals
listing_totals = record { rows = 2; trees = 2400; carbon = record { low = record { 0 = 92196262 }; high = record { 0 = 92196263 } } }
