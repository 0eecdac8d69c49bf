-- What the routines that add up rows ask of them, so that no sum passes 64 bits. No public routine asks for it.
use Rattle.std.specs.Prelude.{List, [], ◌∷◌, length, ◌≤◌}
use Rattle.line.specs.Bounds.{most_of_both, greatest_line}
use Rattle.rules.specs.Checks.{most_lines}
use Rattle.survey.specs.Total.{low_of, high_of}
use Rattle.line.specs.declared.row.Row.{Row}

-- rows whose figures are within those of the greatest line, as those of a valid survey are (Law.Demand3: rows_small)
pub data RowsSmall : List Row → Type 0 where
  none : RowsSmall []
  more : (r : Row) (rs : List Row) → r.trees ≤ most_of_both → low_of r ≤ high_of r → high_of r ≤ greatest_line → RowsSmall rs → RowsSmall (r ∷ rs)

-- and no more of them than a book has lines
pub record FewSmall (rows : List Row) : Type 0 where
  pub few : length rows ≤ most_lines
  pub small : RowsSmall rows
