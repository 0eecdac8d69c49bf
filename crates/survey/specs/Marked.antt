-- "Prove the marked lines together, as one theorem over a list of them." Document 01's marked lines (a) to (j), as one list in its order; all of them hold
-- (Law.Marked: marked_lines_hold). Those of single figures, (a) to (i), are the list of biomass/specs/Marked.antt.
use Rattle.std.specs.Prelude.{ℕ, ◌≤◌, ◌≡◌, List, [], ◌∷◌, ◌++◌, length, take}
use Rattle.biomass.specs.Marked.{marked}
use Rattle.survey.specs.Sheet.{sheet_length}
use Rattle.line.specs.Row.{row_length, row_bytes}
use Rattle.survey.specs.Total.{sheet_after}
use Rattle.survey.specs.Listing.{listing, row1}

abbrev pub marked_book : List (Type 0)
marked_book =
    -- (j) "the listing's row 1": "1 3 24.00 50288870208 50288870425". On whatever sheet of 800 bytes or more, the listing's first 25 bytes are that row's
    ((sheet : List ℕ) → sheet_length ≤ length sheet → take row_length (sheet_after listing sheet) ≡ row_bytes row1) ∷ []

abbrev pub marked_lines : List (Type 0)
marked_lines = marked ++ marked_book
