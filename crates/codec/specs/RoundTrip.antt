-- "A command written and read is the same command, and the bytes of a command read and written again are the same bytes." (Demand 2.) The promises of
-- writing and of reading say so themselves, of every command and of any bytes.
use Rattle.std.specs.Prelude.{ℕ, ◌≡◌, List}
use Rattle.biomass.specs.Report.{Report, refused, gives}
use Rattle.codec.specs.Reading.{read}
use Rattle.codec.specs.Writing.{write, buffer_after}
use Rattle.codec.specs.declared.command.Command.{Command}

-- b is the buffer after writing the command at the place: where it was written, it is read there
abbrev pub ReadsBack : List ℕ → ℕ → Command → Report ℕ → Type 0
ReadsBack b at c (refused n) = Unit
ReadsBack b at c (gives next) = read b at ≡ gives (c, next)

-- s is what was read from at the place: where a command was read, writing it there again answers the same place and leaves s as it is
abbrev pub WritesBack : List ℕ → ℕ → Report (Command × ℕ) → Type 0
WritesBack s at (refused n) = Unit
WritesBack s at (gives r) = (write s at r.0 ≡ gives r.1) × (buffer_after s at r.0 ≡ s)
