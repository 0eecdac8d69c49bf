-- A whole book: the commands that stand in it, one after the other.
use Rattle.std.specs.Prelude.{ℕ, zero, suc, cond, List, [], ◌∷◌, ◌++◌, length, leb}
use Rattle.biomass.specs.Report.{Report, refused, gives, ◌then◌}
use Rattle.codec.specs.Refusal.{number}
use Rattle.codec.specs.Command.{encode}
use Rattle.codec.specs.Reading.{read}
use Rattle.codec.specs.declared.command.Command.{Command}
use Rattle.survey.specs.declared.reader.Extent.{Extent}

-- the bytes of a list of commands
unfoldable pub encode_all : List Command → List ℕ
encode_all [] = []
encode_all (c ∷ cs) = encode c ++ encode_all cs

-- the commands from a place on to the end, or the first refusal. Each takes a byte at least, so that no book has more than its length
unfoldable pub read_up_to : ℕ → List ℕ → ℕ → Report (List Command)
read_up_to zero s at = gives []
read_up_to (suc most) s at =
    cond (leb (length s) at) (gives [])
    (read s at then λ r.
    read_up_to most s r.1 then λ cs.
    gives (r.0 ∷ cs))

unfoldable pub read_all : List ℕ → Report (List Command)
unfolding read_up_to
read_all s = read_up_to (length s) s 0

-- How far a book reads from a place on: the commands that stand there one after the other, the place where no further one is read, and the number that reading
-- answers there, which at the end of the book is 1. Of the bytes 06 07 ff that is, from place 0, the commands 06 and 07, the place 2 and the number 2; and of 06
-- 07 alone the same commands, the place 2 and the number 1
pub record Reach : Type 0 where
  pub commands : List Command
  pub at : ℕ
  pub why : ℕ

-- where reading is refused at the place itself: no command
abbrev pub stops_at : ℕ → ℕ → Reach
stops_at n at = record { commands = []; at = at; why = n }

-- what is reached from the place after a command, with the command in front of it
abbrev pub in_front : Command → Reach → Reach
in_front c r = record { commands = c ∷ r.commands; at = r.at; why = r.why }

-- so by what is read at the place: a refusal; or a command and the place after it, from which `rest` goes on
abbrev pub by_read : ℕ → Report (Command × ℕ) → (ℕ → Reach) → Reach
by_read at (refused n) rest = stops_at n at
by_read at (gives r) rest = in_front r.0 (rest r.1)

-- One command after the other. `most` only lets the definition end, since each turn has one less of it: each command takes a byte at least, so that no byte is
-- left at 0, where reading is refused with 1, and any `most` not below the number of bytes left gives the same (Law.Reach: reach_enough)
unfoldable pub reach_up_to : ℕ → List ℕ → ℕ → Reach
reach_up_to zero s at = stops_at 1 at
reach_up_to (suc most) s at = by_read at (read s at) λ next. reach_up_to most s next

unfoldable pub reach : List ℕ → ℕ → Reach
unfolding reach_up_to
reach s from = reach_up_to (length s) s from

-- how many commands, the place and the number: of what the code answers, and of what is reached
abbrev pub extent : Extent → ℕ × ℕ × ℕ
extent t = (t.commands, t.at, number t.why)

abbrev pub counted : Reach → ℕ × ℕ × ℕ
counted r = (length r.commands, r.at, r.why)
