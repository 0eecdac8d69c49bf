-- "Writing one command at a place: 4 too few bytes from there. Nothing is written; else only the command's bytes change, and the place after them
-- comes back."
use Rattle.std.specs.Prelude.{ℕ, ◌+◌, Bool, List, length, leb}
use Rattle.biomass.specs.Report.{Report, gives, unless}
use Rattle.codec.specs.Bytes.{store}
use Rattle.codec.specs.Command.{encode}
use Rattle.codec.specs.declared.command.Command.{Command}

-- whether the command's bytes fit between the place and the buffer's end; at a place past the end nothing does
abbrev pub fits_at : List ℕ → ℕ → Command → Bool
fits_at b at c = leb (at + length (encode c)) (length b)

-- the place after the command
unfoldable pub write : List ℕ → ℕ → Command → Report ℕ
write b at c = unless (fits_at b at c) 4 (gives (at + length (encode c)))

-- "Nothing is written; else only the command's bytes change": what every byte of the buffer then is
abbrev pub buffer_after : List ℕ → ℕ → Command → List ℕ
buffer_after b at c = store b at (encode c)
