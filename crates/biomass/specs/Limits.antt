-- The limits of a line and of its areas: src/limits.rt.
use Rattle.std.specs.Prelude.{ℕ}

-- "Limits: .. 1,000,000 measured trees and 1,000 height trees a line; 1,000,000 estimated trees a line."
abbrev pub most_measured : ℕ
most_measured = 1000000

abbrev pub most_heights : ℕ
most_heights = 1000

-- in hundredths, as N is
abbrev pub most_estimated : ℕ
most_estimated = 100000000

-- "p (4), q (4), both 1 to 100,000,000"
abbrev pub greatest_area : ℕ
greatest_area = 100000000

-- "the carbon of one small tree in mg (4 bytes, 1 and up) and a count (4 bytes, 1 to 1,000,000)" (document 02, Q-1)
abbrev pub most_small : ℕ
most_small = 1000000

abbrev pub greatest_carbon : ℕ
greatest_carbon = 4294967295
