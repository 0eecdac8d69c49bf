-- What is read at a place: its command is of the kind that has the byte there; and it is written back as it was, since a slice of bytes holds bytes.
use Rattle.std.proofs.Common.{◌≡◌, ℕ, List, Fits, w8}
use Rattle.biomass.specs.Report.{Report, refused}
use Rattle.codec.specs.Bytes.{byte}
use Rattle.codec.specs.Reading.{read}
use Rattle.codec.specs.RoundTrip.{WritesBack}
use Rattle.codec.proofs.Law.RoundTrip.{writes_back}
use Rattle.codec.proofs.Law.Kind.{command_by_kind}
use Rattle.codec.specs.Kind.{kind_of}
use Rattle.codec.specs.Reading.{command_from}
use Rattle.codec.specs.declared.command.Command.{Command}

pub again : (s : List ℕ) (at : ℕ) (r : Report (Command × ℕ)) → ((i : ℕ) → Fits w8 (byte s i)) → r ≡ read s at → WritesBack s at r
again s at r all answer = writes_back s at r (λ i. (all i).fits) answer

-- a byte that no kind has
pub unknown : (s : List ℕ) (b i n : ℕ) → kind_of b ≡ refused n → refused n ≡ command_from b s i
unknown s b i n e = rw (command_by_kind b s i, e)
