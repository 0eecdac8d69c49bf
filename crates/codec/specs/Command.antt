-- "The book": the bytes of each command. "A command is one byte (hexadecimal below), then operands of fixed width, high byte first."
use Rattle.std.specs.Prelude.{ℕ, ◌<◌, List, [], ◌∷◌, ◌++◌, ℤ, pos, negsuc}
use Rattle.codec.specs.Bytes.{bytes, unsigned}
use Rattle.codec.specs.declared.command.Species as Declared
use Rattle.codec.specs.declared.command.Command.{Command}
use Rattle.codec.specs.declared.command.Command.TheVariants.{Species, Factor, Open, Measured, Height, Close, End, Small}

abbrev pub encode : Command → List ℕ
-- "01 species: id (1 byte, 0 to 15), crown group (1, 0 to 7), root group (1, 0 to 5), specific gravity in hundredths (1, 1 to 100), c1 c2 c3 c4 (4 each, signed)"
encode (Species id s) =
    1 ∷ id ∷ s.crown ∷ s.root ∷ s.gravity
    ∷ (bytes 4 (unsigned s.constants.c1) ++ bytes 4 (unsigned s.constants.c2) ++ bytes 4 (unsigned s.constants.c3) ++ bytes 4 (unsigned s.constants.c4))
-- "02 factor: whole cm (1, 7 to 100), factor in hundredths (1, 100 to 200)"
encode (Factor cm factor) = 2 ∷ cm ∷ factor ∷ []
-- "03 open a line: stratum (1, any), species (1), p (4), q (4)"
encode (Open stratum species p q) = 3 ∷ stratum ∷ species ∷ (bytes 4 p ++ bytes 4 q)
-- "04 measured trees: class in cm (1, 7 to 100), count (2, 1 and up)"
encode (Measured class count) = 4 ∷ class ∷ bytes 2 count
-- "05 height tree: cm (1, 10 to 100), height in tenths of a metre (2, 1 to 600)"
encode (Height cm tenths) = 5 ∷ cm ∷ bytes 2 tenths
-- "06 close the line. 07 end of the book."
encode Close = 6 ∷ []
encode End = 7 ∷ []
-- "Command 08 .. gives the carbon of one small tree in mg (4 bytes, 1 and up) and a count (4 bytes, 1 to 1,000,000)" (document 02, Q-1)
encode (Small carbon count) = 8 ∷ (bytes 4 carbon ++ bytes 4 count)

-- A command whose operands fit the bytes that they are written in. Those of the code's types all do: `write_command` of src/writing.rt promises it
abbrev pub FitsFour : ℤ → Type 0
FitsFour (pos n) = n < 2147483648
FitsFour (negsuc n) = n < 2147483648

pub record SpeciesFits (s : Declared.Species) : Type 0 where
  pub crown : s.crown < 256
  pub root : s.root < 256
  pub gravity : s.gravity < 256
  pub c1 : FitsFour s.constants.c1
  pub c2 : FitsFour s.constants.c2
  pub c3 : FitsFour s.constants.c3
  pub c4 : FitsFour s.constants.c4

abbrev pub Fits : Command → Type 0
Fits (Species id s) = (id < 256) × SpeciesFits s
Fits (Factor cm factor) = (cm < 256) × (factor < 256)
Fits (Open stratum species p q) = (stratum < 256) × (species < 256) × (p < 4294967296) × (q < 4294967296)
Fits (Measured class count) = (class < 256) × (count < 65536)
Fits (Height cm tenths) = (cm < 256) × (tenths < 65536)
Fits Close = Unit
Fits End = Unit
Fits (Small carbon count) = (carbon < 4294967296) × (count < 4294967296)
