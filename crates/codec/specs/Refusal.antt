-- "What each operation may decline": the number of each refusal of the code, in documents 01 and 02.
use Rattle.std.specs.Prelude.{ℕ}
use Rattle.codec.specs.declared.refusal.Refusal.{Refusal}
use Rattle.codec.specs.declared.refusal.Refusal.TheVariants.{AtEnd, UnknownByte, CutShort, NoRoom, Ended, Operand, AlreadyGiven, Undeclared, LineOpen, NoLine, Limit, NoHeightTree, Tariff, NoFactor, TooManyTrees, ShortSheet, PlotsAboveArea}

abbrev pub number : Refusal → ℕ
-- "Reading one command at a place: 1 the place is at or past the end; 2 unknown byte; 3 operands cut short."
number AtEnd = 1
number UnknownByte = 2
number CutShort = 3
-- "Writing one command at a place: 4 too few bytes from there."
number NoRoom = 4
-- "Applying a command to a survey: 5 the book has ended, first of all." "6 operand outside its range; 7 already given."
-- "7 where the line has one already" (document 02, Q-1)
number Ended = 5
number Operand = 6
number AlreadyGiven = 7
-- "8 species undeclared", "9 a line is open", "10 no line open", "11 32 lines opened", "11 over the limit"
number Undeclared = 8
number LineOpen = 9
number NoLine = 10
number Limit = 11
-- "12 no height tree", "13 tariff outside 1 to 50", "14 no factor for d div" 100, "15 N over 100,000,000"
number NoHeightTree = 12
number Tariff = 13
number NoFactor = 14
number TooManyTrees = 15
-- "Totalling a book into a sheet: 16 sheet under 800 bytes"
number ShortSheet = 16
-- "17: q above p, after 6 and before 9" (document 02, Q-4)
number PlotsAboveArea = 17
