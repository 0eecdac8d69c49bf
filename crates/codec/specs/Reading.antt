-- "Reading one command at a place: 1 the place is at or past the end; 2 unknown byte; 3 operands cut short. Only the number comes back; without a
-- refusal, the command and the place after it."
use Rattle.std.specs.Prelude.{ℕ, ◌+◌, cond, List, length, leb, ltb, eqb}
use Rattle.biomass.specs.Report.{Report, refused, gives, unless}
use Rattle.codec.specs.Bytes.{byte, number_at, signed}
use Rattle.codec.specs.declared.command.Command.{Command}
use Rattle.codec.specs.declared.command.Command.TheVariants.{Species, Factor, Open, Measured, Height, Close, End, Small}

-- "3 operands cut short": a command whose operands take so many bytes from a place on
abbrev pub with_operands : List ℕ → ℕ → ℕ → Command → Report (Command × ℕ)
with_operands s from width c = unless (leb (from + width) (length s)) 3 (gives (c, from + width))

-- the operands of each command, from the place after its byte on
unfoldable pub species_from : List ℕ → ℕ → Report (Command × ℕ)
species_from s i =
    with_operands s i 20
    (Species (byte s i) (record {
      crown = byte s (i + 1);
      root = byte s (i + 2);
      gravity = byte s (i + 3);
      constants = record {
        c1 = signed (number_at 4 s (i + 4));
        c2 = signed (number_at 4 s (i + 8));
        c3 = signed (number_at 4 s (i + 12));
        c4 = signed (number_at 4 s (i + 16));
      };
    }))

unfoldable pub factor_from : List ℕ → ℕ → Report (Command × ℕ)
factor_from s i = with_operands s i 2 (Factor (byte s i) (byte s (i + 1)))

unfoldable pub open_from : List ℕ → ℕ → Report (Command × ℕ)
open_from s i = with_operands s i 10 (Open (byte s i) (byte s (i + 1)) (number_at 4 s (i + 2)) (number_at 4 s (i + 6)))

unfoldable pub measured_from : List ℕ → ℕ → Report (Command × ℕ)
measured_from s i = with_operands s i 3 (Measured (byte s i) (number_at 2 s (i + 1)))

unfoldable pub height_from : List ℕ → ℕ → Report (Command × ℕ)
height_from s i = with_operands s i 3 (Height (byte s i) (number_at 2 s (i + 1)))

unfoldable pub small_from : List ℕ → ℕ → Report (Command × ℕ)
small_from s i = with_operands s i 8 (Small (number_at 4 s i) (number_at 4 s (i + 4)))

-- by the command's byte: "2 unknown byte"
unfoldable pub command_from : ℕ → List ℕ → ℕ → Report (Command × ℕ)
command_from b s i =
    cond (eqb b 1) (species_from s i)
    (cond (eqb b 2) (factor_from s i)
    (cond (eqb b 3) (open_from s i)
    (cond (eqb b 4) (measured_from s i)
    (cond (eqb b 5) (height_from s i)
    (cond (eqb b 6) (gives (Close, i))
    (cond (eqb b 7) (gives (End, i))
    (cond (eqb b 8) (small_from s i)
    (refused 2))))))))

-- "1 the place is at or past the end"
unfoldable pub read : List ℕ → ℕ → Report (Command × ℕ)
read s at = unless (ltb at (length s)) 1 (command_from (byte s at) s (at + 1))

-- the place to go on from: after a command "the place after it", and after a refusal the place where it was
abbrev pub place_after : ℕ → Report (Command × ℕ) → ℕ
place_after at (gives r) = r.1
place_after at (refused n) = at
