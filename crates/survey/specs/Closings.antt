-- The lines of a book are its closings. What a line comes to is what is noted of it, and the factors given, when it closes: both are those of the survey
-- just before the command 06 that closes it. The rows of an accepted book are those of its closings (Law.Closings: rows_are).
use Rattle.std.specs.Prelude.{ℕ, List, [], ◌∷◌, ◌++◌, Option, option_map, option_to_list}
use Rattle.biomass.specs.Report.{Report, refused, gives, leaves}
use Rattle.line.specs.Line.{Estimate}
use Rattle.survey.specs.Reader.{reach}
use Rattle.survey.specs.Survey.{fresh, estimate, closing_row}
use Rattle.survey.specs.AsWritten.{as_written}
use Rattle.codec.specs.declared.command.Command.{Command}
use Rattle.line.specs.declared.row.Row.{Row}
use Rattle.line.specs.declared.line.Line.{Line}
use Rattle.survey.specs.declared.survey.Survey.{Survey}

-- a line with the factors given when it closes
pub record Closing : Type 0 where
  pub factors : List (Option ℕ)
  pub line : Line

-- what is estimated of it, and the row that it leaves
abbrev pub estimate_of : Closing → Estimate
estimate_of c = estimate c.factors c.line

abbrev pub row_of_closing : Closing → Row
row_of_closing c = closing_row c.factors c.line

-- that of the survey's open line, if one is open
abbrev pub of_open : Survey → List Closing
of_open s = option_to_list (option_map (λ l. record { factors = s.factors; line = l }) s.line)

-- the closing that a command is, if it is one and is taken
abbrev pub closing : Command → Survey → List Closing
closing (Command.Species id species) s = []
closing (Command.Factor cm factor) s = []
closing (Command.Open stratum species p q) s = []
closing (Command.Measured class count) s = []
closing (Command.Height cm tenths) s = []
closing Command.Close s = of_open s
closing Command.End s = []
closing (Command.Small carbon count) s = []

abbrev pub if_taken : Report Survey → List Closing → List Closing
if_taken (refused n) closes = []
if_taken (gives t) closes = closes

-- those of commands that are applied one after the other, by the papers' text; one that is refused closes nothing and leaves the survey as it was
unfoldable pub closings : List Command → Survey → List Closing
closings [] s = []
closings (c ∷ cs) s = if_taken (as_written c s) (closing c s) ++ closings cs (leaves s (as_written c s)).left

-- and of the commands that a book reads as, from a fresh survey on: the lines of the book, "in closing order"
unfoldable pub closings_of : List ℕ → List Closing
closings_of book = closings (reach book 0).commands fresh
