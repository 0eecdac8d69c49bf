-- What a command changes, decided on the few values that it looks at of a survey. Applying a command is deciding it and storing the change in its place
-- (survey's Law.Change: decides). No paper names it: the checks are those of Checks, of a line's own commands those of line/specs, in the papers' order.
use Rattle.std.specs.Prelude.{ℕ, cond, List, Option, None, Some, is_some, leb}
use Rattle.biomass.specs.Whole.{inside}
use Rattle.biomass.specs.Report.{Report, gives, when, ◌then◌, given}
use Rattle.line.specs.Line.{new_line, add_small, factor_at}
use Rattle.line.specs.AnyLine.{add_trees, add_height, line_row}
use Rattle.rules.specs.Checks.{most_lines, declaring, giving, opening, ending}
use Rattle.codec.specs.declared.command.Species.{Species}
use Rattle.codec.specs.declared.command.Command.{Command}
use Rattle.line.specs.declared.line.Line.{Line}
use Rattle.rules.specs.declared.change.Change.{Change}
use Rattle.rules.specs.declared.change.Named.{Named}
use Rattle.rules.specs.declared.change.Seen.{Seen}

-- what a command names
abbrev pub named : Command → Named
named (Command.Species id species) = Named.Species id
named (Command.Factor cm factor) = Named.Nothing
named (Command.Open stratum species p q) = Named.Line stratum species
named (Command.Measured class count) = Named.Nothing
named (Command.Height cm tenths) = Named.Nothing
named Command.Close = Named.Nothing
named Command.End = Named.Nothing
named (Command.Small carbon count) = Named.Nothing

-- "8 species undeclared, an id above 15 included": what a species is declared with, by what is seen of it
abbrev pub declared_at : ℕ → Option Species → Option Species
declared_at id there = cond (inside 0 id 15) there None

-- What each command changes of a survey that has not ended, by what it sees of it, the open line and the factors: an opening
abbrev pub opens : ℕ → ℕ → ℕ → ℕ → Seen → Option Line → Report Change
opens stratum id p q v line =
    opening p q (is_some line) (declared_at id v.there) v.before v.closed then λ x.
    gives (Change.Line (new_line stratum id x p q))

-- a command of the open line, with what becomes of the line
abbrev pub updates : Option Line → (Line → Report Line) → Report Change
updates line note =
    given line 10 then λ l.
    note l then λ m.
    gives (Change.Line m)

-- a closing; the last check declines it with a line open and 32 closed
abbrev pub closes : ℕ → Option Line → List (Option ℕ) → Report Change
closes closed line factors =
    given line 10 then λ l.
    line_row factors l then λ r.
    when (leb most_lines closed) 11
    (gives (Change.Row r))

-- the end
abbrev pub ends : Option Line → Report Change
ends line = ending (is_some line) (gives Change.End)

-- by command
abbrev pub change_of : Command → Seen → Option Line → List (Option ℕ) → Report Change
change_of (Command.Species id species) v line factors = declaring id species (is_some (declared_at id v.there)) (gives (Change.Species id species))
change_of (Command.Factor cm factor) v line factors = giving cm factor (is_some (factor_at factors cm)) (gives (Change.Factor cm factor))
change_of (Command.Open stratum species p q) v line factors = opens stratum species p q v line
change_of (Command.Measured class count) v line factors = updates line (add_trees class count)
change_of (Command.Height cm tenths) v line factors = updates line (add_height cm tenths)
change_of Command.Close v line factors = closes v.closed line factors
change_of Command.End v line factors = ends line
change_of (Command.Small carbon count) v line factors = updates line (add_small carbon count)

-- and of any survey: "5 the book has ended, first of all."
abbrev pub decided : Command → Seen → Option Line → List (Option ℕ) → Report Change
decided c v line factors = when v.ended 5 (change_of c v line factors)

-- What a command notes of the open line, of the two that a line has many of, and that playing notes of the line alone. Small trees come once a line, and are taken
-- as any other command
abbrev pub own_of : Command → Option (Line → Report Line)
own_of (Command.Species id species) = None
own_of (Command.Factor cm factor) = None
own_of (Command.Open stratum species p q) = None
own_of (Command.Measured class count) = Some (add_trees class count)
own_of (Command.Height cm tenths) = Some (add_height cm tenths)
own_of Command.Close = None
own_of Command.End = None
own_of (Command.Small carbon count) = None
