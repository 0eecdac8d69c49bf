-- A command as nine numbers: its byte, its operands in the order of the book, and 0 for each that it does not have. The signed operands of a species
-- stand in two's complement, as they do in the book, but of 64 bits: −1 is 2^64 − 1.
use Rattle.std.specs.Prelude.{ℕ, ◌+◌, ◌%◌, Bool, true, false, cond, ◌&&◌, List, [], ◌∷◌, ltb, eqb, get_or}
use Rattle.biomass.specs.Report.{Report, refused, gives, unless, ◌then◌}
use Rattle.codec.specs.Bytes.{signed, unsigned}
use Rattle.codec.specs.declared.command.Species as Declared
use Rattle.codec.specs.declared.command.Command.{Command}
use Rattle.codec.specs.declared.command.Command.TheVariants.{Species, Factor, Open, Measured, Height, Close, End, Small}

-- from 32 bits to 64: the upper half of the one is the uppermost part of the other (Law: natural_wide, negative_wide: so it is two's complement)
abbrev pub extended : ℕ → ℕ
extended bits = cond (ltb bits 2147483648) bits (bits + 18446744069414584320)

abbrev pub numbers : Command → List ℕ
numbers (Species id s) =
    1 ∷ id ∷ s.crown ∷ s.root ∷ s.gravity
    ∷ extended (unsigned s.constants.c1) ∷ extended (unsigned s.constants.c2) ∷ extended (unsigned s.constants.c3) ∷ extended (unsigned s.constants.c4) ∷ []
numbers (Factor cm factor) = 2 ∷ cm ∷ factor ∷ 0 ∷ 0 ∷ 0 ∷ 0 ∷ 0 ∷ 0 ∷ []
numbers (Open stratum species p q) = 3 ∷ stratum ∷ species ∷ p ∷ q ∷ 0 ∷ 0 ∷ 0 ∷ 0 ∷ []
numbers (Measured class count) = 4 ∷ class ∷ count ∷ 0 ∷ 0 ∷ 0 ∷ 0 ∷ 0 ∷ 0 ∷ []
numbers (Height cm tenths) = 5 ∷ cm ∷ tenths ∷ 0 ∷ 0 ∷ 0 ∷ 0 ∷ 0 ∷ 0 ∷ []
numbers Close = 6 ∷ 0 ∷ 0 ∷ 0 ∷ 0 ∷ 0 ∷ 0 ∷ 0 ∷ 0 ∷ []
numbers End = 7 ∷ 0 ∷ 0 ∷ 0 ∷ 0 ∷ 0 ∷ 0 ∷ 0 ∷ 0 ∷ []
numbers (Small carbon count) = 8 ∷ carbon ∷ count ∷ 0 ∷ 0 ∷ 0 ∷ 0 ∷ 0 ∷ 0 ∷ []

-- ---- the command that numbers stand for

-- what an operand of so many bytes is cut to
abbrev pub one_byte : List ℕ → ℕ → ℕ
one_byte ns i = get_or ns i 0 % 256

abbrev pub two_bytes : List ℕ → ℕ → ℕ
two_bytes ns i = get_or ns i 0 % 65536

abbrev pub four_bytes : List ℕ → ℕ → ℕ
four_bytes ns i = get_or ns i 0 % 4294967296

abbrev pub species_of : List ℕ → Declared.Species
species_of ns =
    record {
      crown = one_byte ns 2;
      root = one_byte ns 3;
      gravity = one_byte ns 4;
      constants = record {
        c1 = signed (four_bytes ns 5);
        c2 = signed (four_bytes ns 6);
        c3 = signed (four_bytes ns 7);
        c4 = signed (four_bytes ns 8);
      };
    }

-- the command of that byte, with operands cut to their widths: "2 unknown byte" where there is none
unfoldable pub cut : List ℕ → Report Command
cut ns =
    cond (eqb (get_or ns 0 0) 1) (gives (Species (one_byte ns 1) (species_of ns)))
    (cond (eqb (get_or ns 0 0) 2) (gives (Factor (one_byte ns 1) (one_byte ns 2)))
    (cond (eqb (get_or ns 0 0) 3) (gives (Open (one_byte ns 1) (one_byte ns 2) (four_bytes ns 3) (four_bytes ns 4)))
    (cond (eqb (get_or ns 0 0) 4) (gives (Measured (one_byte ns 1) (two_bytes ns 2)))
    (cond (eqb (get_or ns 0 0) 5) (gives (Height (one_byte ns 1) (two_bytes ns 2)))
    (cond (eqb (get_or ns 0 0) 6) (gives Close)
    (cond (eqb (get_or ns 0 0) 7) (gives End)
    (cond (eqb (get_or ns 0 0) 8) (gives (Small (four_bytes ns 1) (four_bytes ns 2)))
    (refused 2))))))))

-- whether two lists have the same numbers
abbrev pub same : List ℕ → List ℕ → Bool
same [] [] = true
same [] (y ∷ ys) = false
same (x ∷ xs) [] = false
same (x ∷ xs) (y ∷ ys) = eqb x y && same xs ys

-- It is the one whose numbers these are: 6 where one of them was cut, or should be 0. (Law: numbers_command, command_numbers: it is that one, and there
-- is no other.)
unfoldable pub command_of : List ℕ → Report Command
command_of ns = cut ns then λ c. unless (same (numbers c) ns) 6 (gives c)
