-- A command in words: examples/README.md.
use Rattle.std.specs.Prelude.{List, ℕ, ◌++◌, codes, decimal}
use Rattle.std.specs.Fmt.{signed_decimal}
use Rattle.biomass.specs.declared.tariff.Constants.{Constants}
use Rattle.codec.specs.declared.command.Command.{Command}
use Rattle.codec.specs.declared.command.Species.{Species}

-- the four constants, each with its sign where it is below 0
abbrev pub constants : Constants → List ℕ
constants c =
    codes "constants " ++ (signed_decimal c.c1 ++ (codes " " ++ (signed_decimal c.c2 ++ (codes " " ++ (signed_decimal c.c3 ++ (codes " " ++ signed_decimal c.c4))))))

-- what a species is declared with, after its id
abbrev pub declared : Species → List ℕ
declared s =
    codes "crown " ++ (decimal s.crown ++ (codes " root " ++ (decimal s.root ++ (codes " gravity " ++ (decimal s.gravity ++ (codes " " ++ constants s.constants))))))

abbrev pub words : Command → List ℕ
words (Command.Species id s) = codes "species " ++ (decimal id ++ (codes " " ++ declared s))
words (Command.Factor cm factor) = codes "factor " ++ decimal cm ++ codes " cm " ++ decimal factor
words (Command.Open stratum species p q) =
    codes "open stratum " ++ decimal stratum ++ codes " species " ++ decimal species ++ codes " p " ++ decimal p ++ codes " q " ++ decimal q
words (Command.Measured class count) = codes "measured " ++ decimal class ++ codes " cm " ++ decimal count
words (Command.Height cm tenths) = codes "height " ++ decimal cm ++ codes " cm " ++ decimal tenths
words Command.Close = codes "close"
words Command.End = codes "end"
words (Command.Small carbon count) = codes "small " ++ decimal carbon ++ codes " mg " ++ decimal count
