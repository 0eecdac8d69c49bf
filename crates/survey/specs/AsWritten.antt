-- Any command, by the text of documents 01 and 02: the rules by which a book is totalled (Total) and by which its lines are closed (Closings).
use Rattle.std.specs.Prelude.{ℕ, Bool, true, false, cond, List, [], ◌∷◌, eqb}
use Rattle.biomass.specs.Report.{Report}
use Rattle.survey.specs.Survey.{declare, give_factor, open_line, measure, give_height, give_small, close, end}
use Rattle.codec.specs.declared.command.Command.{Command}
use Rattle.survey.specs.declared.survey.Survey.{Survey}

abbrev pub as_written : Command → Survey → Report Survey
as_written (Command.Species id species) s = declare id species s
as_written (Command.Factor cm factor) s = give_factor cm factor s
as_written (Command.Open stratum species p q) s = open_line stratum species p q s
as_written (Command.Measured class count) s = measure class count s
as_written (Command.Height cm tenths) s = give_height cm tenths s
as_written Command.Close s = close s
as_written Command.End s = end s
as_written (Command.Small carbon count) s = give_small carbon count s

-- The numbers that documents 01 and 02 name for each command, as a set: no other is told of a valid survey (Law.Named: only_named). In which order they are asked for
-- is said by the checks themselves (Survey, rules/specs/Checks.antt). "5 the book has ended, first of all."
abbrev pub numbers_of : Command → List ℕ
-- "Species and factor: 6 operand outside its range; 7 already given."
numbers_of (Command.Species id species) = 5 ∷ 6 ∷ 7 ∷ []
numbers_of (Command.Factor cm factor) = 5 ∷ 6 ∷ 7 ∷ []
-- "Opening: 6; 9 a line is open; 8 species undeclared, an id above 15 included; 7 same stratum and species already opened; 11 32 lines opened." "17: q above p,
-- after 6 and before 9" (document 02, Q-4)
numbers_of (Command.Open stratum species p q) = 5 ∷ 6 ∷ 17 ∷ 9 ∷ 8 ∷ 7 ∷ 11 ∷ []
-- "Measured: 10 no line open; 6; 11 over the limit."
numbers_of (Command.Measured class count) = 5 ∷ 10 ∷ 6 ∷ 11 ∷ []
-- "Height: 10; 6; 13 tariff outside 1 to 50; 11."
numbers_of (Command.Height cm tenths) = 5 ∷ 10 ∷ 6 ∷ 13 ∷ 11 ∷ []
-- "Closing: 10; then, where n > 0, 12 no height tree; 14 no factor for d div" 100; "15 N over 100,000,000."
numbers_of Command.Close = 5 ∷ 10 ∷ 12 ∷ 14 ∷ 15 ∷ []
-- "Ending: 9."
numbers_of Command.End = 5 ∷ 9 ∷ []
-- "08 is checked for 10, then 6, then 7 where the line has one already" (document 02, Q-1)
numbers_of (Command.Small carbon count) = 5 ∷ 10 ∷ 6 ∷ 7 ∷ []

-- whether a number is in a list
abbrev pub is_in : ℕ → List ℕ → Bool
is_in n [] = false
is_in n (m ∷ l) = cond (eqb n m) true (is_in n l)
