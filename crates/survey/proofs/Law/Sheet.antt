-- What is proved of the sheet, row by row and byte by byte: each row stands in its own bytes, no byte past the last row changes, and a row that is
-- stored is read back as it was.
use Rattle.std.specs.Prelude.{ℕ, zero, suc, ◌+◌, ◌*◌, ◌≤◌, ◌<◌, ◌≡◌, refl, List, [], ◌∷◌, ◌++◌, length, take, drop, get_or}
use Rattle.std.proofs.Common.{zero-le, le_of_suc-le-suc, not-suc-le-zero, add-one, arith, ap, inr, append_assoc, append-nil, length-append, length-take-le, take-suc, le-leb}
use Rattle.biomass.specs.Report.{gives}
use Rattle.codec.specs.Bytes.{byte, stored_at}
use Rattle.rules.specs.Checks.{most_lines}
use Rattle.survey.specs.Valid.{Valid}
use Rattle.survey.specs.Survey.{rows_of}
use Rattle.survey.specs.Sheet.{sheet_length, sheet_bytes, find_row}
use Rattle.line.specs.Row.{row_length, row_bytes}
use Rattle.line.proofs.Law.Row.{length_row, RowFits, row_of_bytes}
use Rattle.codec.proofs.Law.Bytes.{Stands, stands_at, stands_first, stands_second, stands_taken}
use Rattle.codec.proofs.Law.Storing.{length_stored, stands_stored, stored_keeps, stored_then}
use Rattle.line.specs.declared.row.Row.{Row}
use Rattle.survey.specs.declared.survey.Survey.{Survey}

-- ---- how long rows are

-- "800 bytes" are room for 32 rows
pub room_for_all : most_lines * row_length ≡ sheet_length
room_for_all = refl

pub length_sheet : (rs : List Row) → length (sheet_bytes rs) ≡ row_length * length rs
unfolding sheet_bytes
length_sheet [] = refl
length_sheet (r ∷ rs) = rw length-append (omega (arith, length_row r, length_sheet rs))

-- ---- the rows one after the other

-- the bytes of some rows and of one more
sheet_snoc : (rs : List Row) (r : Row) → sheet_bytes (rs ++ (r ∷ [])) ≡ sheet_bytes rs ++ row_bytes r
unfolding sheet_bytes
sheet_snoc [] r = append-nil (row_bytes r)
sheet_snoc (q ∷ rs) r = rw (sheet_snoc rs r, append_assoc)

-- rows that stand from a place on stand a row's length apart
row_apart : (rows : List Row) (i : ℕ) (z : Row) {s : List ℕ} {at : ℕ} → i < length rows → Stands (sheet_bytes rows) s at
    → Stands (row_bytes (get_or rows i z)) s (at + row_length * i)
unfolding sheet_bytes
row_apart [] i z inside h = absurd (not-suc-le-zero inside)
row_apart (r ∷ rows) zero z inside h = stands_at (stands_first (row_bytes r) (sheet_bytes rows) h) (omega arith)
row_apart (r ∷ rows) (suc i) z inside h =
    let apart = row_apart rows i z (le_of_suc-le-suc inside) (stands_second (row_bytes r) (sheet_bytes rows) h) in
    stands_at apart (omega (arith, length_row r))

module _ (sheet : List ℕ) (rows : List Row) where
  -- the rows before the i-th, and then the i-th after them
  pub stored_one_more : (i : ℕ) (z : Row) → i < length rows
      → stored_at (stored_at sheet 0 (sheet_bytes (take i rows))) (row_length * i) (row_bytes (get_or rows i z)) ≡ stored_at sheet 0 (sheet_bytes (take (i + 1) rows))
  stored_one_more i z inside =
      let b = sheet_bytes (take i rows) in
      let place : row_length * i ≡ 0 + length b = omega (arith, length_sheet (take i rows), length-take-le i rows (omega arith)) in
      let next : sheet_bytes (take (i + 1) rows) ≡ b ++ row_bytes (get_or rows i z) =
      rw (add-one, take-suc rows i z inside) (sheet_snoc (take i rows) (get_or rows i z)) in
      rw (place, next) (stored_then sheet 0 b zero-le (row_bytes (get_or rows i z)))

  -- nothing past the rows changes
  pub rest_stays : (j : ℕ) → row_length * length rows ≤ j → byte (stored_at sheet 0 (sheet_bytes rows)) j ≡ byte sheet j
  rest_stays j past = stored_keeps sheet 0 (sheet_bytes rows) zero-le j (inr (omega (arith, length_sheet rows)))

  module _ (room : row_length * length rows ≤ length sheet) where
    -- a sheet that the rows fit is as long as it was
    pub stored_length : length (stored_at sheet 0 (sheet_bytes rows)) ≡ length sheet
    stored_length = length_stored sheet 0 (sheet_bytes rows) (omega (arith, length_sheet rows))

    module _ (i : ℕ) (z : Row) (inside : i < length rows) where
      fits : row_length * i + row_length ≤ length (stored_at sheet 0 (sheet_bytes rows))
      fits = omega (arith, stored_length)

      stands : Stands (row_bytes (get_or rows i z)) (stored_at sheet 0 (sheet_bytes rows)) (row_length * i)
      stands = stands_at (row_apart rows i z inside (stands_stored sheet 0 (sheet_bytes rows) zero-le)) (omega arith)

      -- "A row is 25 bytes ... in closing order": the i-th stands from byte 25·i on
      pub row_stands : take row_length (drop (row_length * i) (stored_at sheet 0 (sheet_bytes rows))) ≡ row_bytes (get_or rows i z)
      row_stands =
          let r = get_or rows i z in
          rw (length_row r) at (stands_taken (row_bytes r) (stored_at sheet 0 (sheet_bytes rows)) (row_length * i) stands (omega (arith, fits, length_row r)))

      -- a row that is stored and read is the same row
      pub row_reads_back : RowFits (get_or rows i z) → find_row (stored_at sheet 0 (sheet_bytes rows)) i ≡ gives (get_or rows i z)
      unfolding find_row
      row_reads_back f =
          let laid = stored_at sheet 0 (sheet_bytes rows) in
          rw (le-leb (row_length * i + row_length) (length laid) fits) (ap gives (row_of_bytes (get_or rows i z) laid (row_length * i) f stands))

-- ---- the rows of a valid survey

module _ (s : Survey) (v : Valid s) where
  -- as many as there are closed lines
  pub rows_number : length (rows_of s) ≡ s.closed
  rows_number = length-take-le s.closed s.rows (omega (arith, v.lines, v.places))

  pub rows_at_most : length (rows_of s) ≤ most_lines
  rows_at_most = omega (arith, rows_number, v.lines)

  -- so that a sheet which is not too short keeps its length
  pub sheet_as_long : (sheet : List ℕ) → sheet_length ≤ length sheet → length (stored_at sheet 0 (sheet_bytes (rows_of s))) ≡ length sheet
  sheet_as_long sheet room = stored_length sheet (rows_of s) (omega (arith, rows_at_most))
