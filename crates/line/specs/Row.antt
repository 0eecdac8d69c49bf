-- A row in a sheet. "A row is 25 bytes: stratum 1, species 1, T 1, d 2, N 4, low 8, high 8, high byte first"
use Rattle.std.specs.Prelude.{ℕ, ◌+◌, List, ◌++◌}
use Rattle.biomass.specs.Ends.{between}
use Rattle.codec.specs.Bytes.{byte, number_at, bytes}
use Rattle.line.specs.declared.row.Row.{Row}

-- "A row is 25 bytes"
abbrev pub row_length : ℕ
row_length = 25

unfoldable pub row_bytes : Row → List ℕ
row_bytes r =
    bytes 1 r.stratum
    ++ bytes 1 r.species
    ++ bytes 1 r.tariff
    ++ bytes 2 r.d
    ++ bytes 4 r.trees
    ++ bytes 8 r.biomass.low.0
    ++ bytes 8 r.biomass.high.0

-- The row in the bytes from a place on, a byte past the end being 0. (Document 01 asks only that the rows stand in the sheet; whoever prints them reads
-- them so.)
unfoldable pub row_from : List ℕ → ℕ → Row
row_from s at =
    record {
      stratum = byte s at;
      species = byte s (at + 1);
      tariff = byte s (at + 2);
      d = number_at 2 s (at + 3);
      trees = number_at 4 s (at + 5);
      biomass = between (number_at 8 s (at + 9)) (number_at 8 s (at + 17));
    }
