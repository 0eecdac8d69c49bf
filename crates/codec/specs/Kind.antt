-- "A command is one byte (hexadecimal below), then operands": the byte of each kind of command.
use Rattle.std.specs.Prelude.{ℕ, List, [], ◌∷◌, Option, Some, None, find, nat_eq}
use Rattle.biomass.specs.Report.{Report, refused, gives}
use Rattle.codec.specs.declared.command.Command.{Command}
use Rattle.codec.specs.declared.command.Command.TheVariants as Commands
use Rattle.codec.specs.declared.command.Kind.{Kind}
use Rattle.codec.specs.declared.command.Kind.TheVariants.{Species, Factor, Open, Measured, Height, Close, End, Small}

-- "01 species", "02 factor", "03 open a line", "04 measured trees", "05 height tree", "06 close the line", "07 end of the book"; "Command 08" (document 02, Q-1)
abbrev pub kind_byte : Kind → ℕ
kind_byte Species = 1
kind_byte Factor = 2
kind_byte Open = 3
kind_byte Measured = 4
kind_byte Height = 5
kind_byte Close = 6
kind_byte End = 7
kind_byte Small = 8

abbrev pub kind : Command → Kind
kind (Commands.Species id s) = Species
kind (Commands.Factor cm factor) = Factor
kind (Commands.Open stratum species p q) = Open
kind (Commands.Measured class count) = Measured
kind (Commands.Height cm tenths) = Height
kind Commands.Close = Close
kind Commands.End = End
kind (Commands.Small carbon count) = Small

abbrev pub kinds : List Kind
kinds = Species ∷ Factor ∷ Open ∷ Measured ∷ Height ∷ Close ∷ End ∷ Small ∷ []

-- "2 unknown byte", where no kind is found
abbrev pub known : Option Kind → Report Kind
known (Some k) = gives k
known None = refused 2

-- the kind that has a byte
abbrev pub kind_of : ℕ → Report Kind
kind_of byte = known (find (λ k. nat_eq byte (kind_byte k)) kinds)
