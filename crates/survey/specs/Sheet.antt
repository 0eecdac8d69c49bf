-- The sheet: rows "in closing order". A row's bytes are line/specs/Row.antt.
use Rattle.std.specs.Prelude.{ℕ, ◌+◌, ◌*◌, List, [], ◌∷◌, ◌++◌, length, leb}
use Rattle.biomass.specs.Report.{Report, gives, unless}
use Rattle.line.specs.Row.{row_length, row_bytes, row_from}
use Rattle.line.specs.declared.row.Row.{Row}

-- "16 sheet under 800 bytes": room for the rows of 32 lines (Law.Sheet: room_for_all)
abbrev pub sheet_length : ℕ
sheet_length = 800

unfoldable pub sheet_bytes : List Row → List ℕ
sheet_bytes [] = []
sheet_bytes (r ∷ rs) = row_bytes r ++ sheet_bytes rs

-- ---- a row read back from a sheet. (Document 01 asks only that the rows stand there; whoever prints them reads them so.)

-- the row with this number, counted from 0; 1 where the sheet ends before it does
unfoldable pub find_row : List ℕ → ℕ → Report Row
find_row s i = unless (leb (row_length * i + row_length) (length s)) 1 (gives (row_from s (row_length * i)))
