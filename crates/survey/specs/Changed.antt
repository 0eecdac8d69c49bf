-- What a change makes of a survey, and what a command sees of one: applying a command is deciding it on what it sees (rules/specs/Change.antt) and storing the
-- change in its place (Law.Change: decides). No paper names it.
use Rattle.std.specs.Prelude.{◌≤◌, ◌<◌, ◌≡◌, Bool, false, Option, None}
use Rattle.rules.specs.Checks.{most_lines}
use Rattle.survey.specs.Survey.{species_at, with_species, with_factor, with_line, with_row, with_end, opened}
use Rattle.codec.specs.declared.command.Species.{Species}
use Rattle.rules.specs.declared.change.Change.{Change}
use Rattle.rules.specs.declared.change.Named.{Named}
use Rattle.rules.specs.declared.change.Seen.{Seen}
use Rattle.survey.specs.declared.survey.Survey.{Survey}

-- what a change makes of a survey
abbrev pub changed : Change → Survey → Survey
changed (Change.Species id species) s = with_species s id species
changed (Change.Factor cm factor) s = with_factor s cm factor
changed (Change.Line l) s = with_line s l
changed (Change.Row r) s = with_row s r
changed Change.End s = with_end s

-- it has a place in the survey's tables
abbrev pub HasPlace : Change → Survey → Type 0
HasPlace (Change.Species id species) s = id ≤ 15
HasPlace (Change.Factor cm factor) s = cm ≤ 100
HasPlace (Change.Line l) s = Unit
HasPlace (Change.Row r) s = s.closed < most_lines
HasPlace Change.End s = Unit

-- what a command sees of a survey, with what is seen of the species and of the line that it names
abbrev pub seen_of : Option Species → Bool → Survey → Seen
seen_of there before s = record { there = there; before = before; closed = s.closed; ended = s.ended }

-- what stands in its tables for what a command names
abbrev pub there_of : Named → Survey → Option Species
there_of Named.Nothing s = None
there_of (Named.Species id) s = species_at s id
there_of (Named.Line stratum id) s = species_at s id

-- and whether the line that it names was closed before
abbrev pub before_of : Named → Survey → Bool
before_of Named.Nothing s = false
before_of (Named.Species id) s = false
before_of (Named.Line stratum id) s = opened stratum id s

-- the same is seen of what a command names: of a species where its id has a place, of a line besides whether it was closed
abbrev pub SameSeen : Named → Option Species → Option Species → Bool → Bool → Type 0
SameSeen Named.Nothing x y a b = Unit
SameSeen (Named.Species id) x y a b = id ≤ 15 → x ≡ y
SameSeen (Named.Line stratum id) x y a b = (id ≤ 15 → x ≡ y) × (a ≡ b)

-- what is seen is so of the survey
abbrev pub Sees : Named → Option Species → Bool → Survey → Type 0
Sees name there before s = SameSeen name (there_of name s) there (before_of name s) before
