-- Input and output of the programs.
use Rattle.std.specs.Prelude.{ℕ, List, ◌∷◌, [], ◌++◌, Option, codes}
use Rattle.std.specs.Fmt.{decimal}
use Rattle.std.specs.Io.Buffered.{writer_contents, writer_inner}
use Rattle.std.specs.Io.KnownBytes.{Appends}
use Rattle.console.specs.declared.Output.{Output}

-- "a book of up to 65,536 bytes"
abbrev pub most_bytes : ℕ
most_bytes = 65536

-- the line of a refusal, with its line end
abbrev pub refusal_line : ℕ → ℕ → List ℕ
refusal_line number at = codes "refused " ++ decimal number ++ codes " at " ++ decimal at ++ 10 ∷ []

module _ {W : Type 0} where
  -- the writer of an output
  abbrev pub writer_of : Output W → W
  writer_of o = writer_inner o.writer

  -- what was printed, where the writer tells what it holds: that, and then what waits in the buffer
  abbrev pub printed : (W → Option (List ℕ)) → Output W → Option (List ℕ)
  printed contents o = writer_contents contents o.writer

  -- new is old with bs printed after all that was printed before
  abbrev pub Prints : (W → Option (List ℕ)) → Output W → Output W → List ℕ → Type 0
  Prints contents old new bs = Appends (printed contents old) (printed contents new) bs

  -- what prints a book, lent the output old and the book bs, may leave the output new
  abbrev pub PrintedBy : {R : Type 0} → (Output W → List ℕ → R → Output W → Type 0) → Output W → List ℕ → Output W → Type 0
  PrintedBy {R} prints old bs new = (answer : R) × prints old bs answer new
