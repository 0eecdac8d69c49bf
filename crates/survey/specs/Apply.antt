-- What the code does of any survey at all, also of one that no book reaches: the papers' text (Survey), and besides a check wherever a number could
-- otherwise be outside what the next figure is worked from. Of a valid survey, and so of every one that a book reaches, applying is the text (Law.AsWritten:
-- as_written_lem), and every book comes to what it comes to by the text (Law.Playing: play_as_written). No promise about a whole book is
-- stated over this.
use Rattle.std.specs.Prelude.{ℕ, List, [], ◌∷◌, leb}
use Rattle.biomass.specs.Report.{Report, gives, when, ◌then◌, given, leaves}
use Rattle.line.specs.AnyLine.{add_trees, add_height, line_row}
use Rattle.rules.specs.Checks.{most_lines}
use Rattle.survey.specs.Survey.{with_line, with_row, declare, give_factor, open_line, give_small, end}
use Rattle.codec.specs.declared.command.Command.{Command}
use Rattle.line.specs.declared.line.Line.{Line}
use Rattle.survey.specs.declared.survey.Survey.{Survey}

-- a command of the open line, with what becomes of the line
abbrev pub on_line : (Line → Report Line) → Survey → Report Survey
on_line note s =
    when s.ended 5
    (given s.line 10 then λ l.
    note l then λ m.
    gives (with_line s m))

unfoldable pub apply_measured : ℕ → ℕ → Survey → Report Survey
apply_measured class count s = on_line (add_trees class count) s

unfoldable pub apply_height : ℕ → ℕ → Survey → Report Survey
apply_height cm tenths s = on_line (add_height cm tenths) s

-- closing, with the row that the line leaves; the last check declines a survey with a line open and 32 closed
unfoldable pub apply_close : Survey → Report Survey
apply_close s =
    when s.ended 5
    (given s.line 10 then λ l.
    line_row s.factors l then λ r.
    when (leb most_lines s.closed) 11
    (gives (with_row s r)))

-- the other commands have no check besides
abbrev pub apply : Command → Survey → Report Survey
apply (Command.Species id species) s = declare id species s
apply (Command.Factor cm factor) s = give_factor cm factor s
apply (Command.Open stratum species p q) s = open_line stratum species p q s
apply (Command.Measured class count) s = apply_measured class count s
apply (Command.Height cm tenths) s = apply_height cm tenths s
apply Command.Close s = apply_close s
apply Command.End s = end s
apply (Command.Small carbon count) s = give_small carbon count s

-- the survey after a list of commands: a refused one leaves it as it was
unfoldable pub reached : List Command → Survey → Survey
reached [] s = s
reached (c ∷ cs) s = reached cs (leaves s (apply c s)).left
