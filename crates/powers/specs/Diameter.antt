-- The unit of a diameter d, its range, and where the crown and the root change from a curve to a straight line: src/diameter.rt.
use Rattle.std.specs.Prelude.{ℕ}

-- "d becomes hundredths" of a cm (document 02, Q-5): so many of them to the cm
abbrev pub units_to_cm : ℕ
units_to_cm = 100

-- "range 700 to 10000"
abbrev pub least_d : ℕ
least_d = 700

abbrev pub greatest_d : ℕ
greatest_d = 10000

-- The greatest d on the crown's curve: "The crown changes equation above 5000"
abbrev pub crown_limit : ℕ
crown_limit = 5000

-- and on the root's: "The root changes above 3000"
abbrev pub root_limit : ℕ
root_limit = 3000
