-- "Totalling a book": its commands are applied to a fresh survey, one after the other, to the end of the book or to "the first refusal met, with the
-- place of its command".
use Rattle.std.specs.Prelude.{ℕ, zero, suc, ◌+◌, ◌≤◌, ◌<◌, ◌≡◌, false, Some, cond, List, [], ◌∷◌, length, ltb, Result, Ok, Err}
use Rattle.biomass.specs.Report.{Report, refused, gives, ◌then◌}
use Rattle.codec.specs.Refusal.{number}
use Rattle.codec.specs.Command.{encode}
use Rattle.codec.specs.Reading.{read}
use Rattle.survey.specs.Survey.{fresh, with_line}
use Rattle.survey.specs.Apply.{apply}
use Rattle.survey.specs.declared.survey.Survey.{Survey}
use Rattle.codec.specs.declared.command.Command.{Command}
use Rattle.codec.specs.declared.refusal.Refusal.{Refusal}
use Rattle.line.specs.declared.line.Line.{Line}
use Rattle.survey.specs.declared.playing.Stopped.{Stopped}

-- the survey at the end of the book, or the number of the first refusal and the place of its command
pub data Played : Type 0 where
  ended : Survey → Played
  stopped : ℕ → ℕ → Played

-- what the code answers, with the survey that it leaves
abbrev pub played : Result Unit Stopped → Survey → Played
played (Ok done) s = ended s
played (Err h) s = stopped (number h.why) h.at

-- The rules by which a command is applied to a survey: the papers' bare text (AsWritten), by which a book is totalled, or `apply`, which the code does
-- and by which each book comes to the same (Law.Playing: play_as_written)
abbrev pub Rules : Type 0
Rules = Command → Survey → Report Survey

-- what follows a command, unless it is refused, at its place
abbrev pub met : {A : Type 0} → ℕ → Report A → (A → Played) → Played
met at (refused n) next = stopped n at
met at (gives a) next = next a

-- ---- a book given as its commands

-- The commands from a place on: each is applied to the survey that those before it left, and what is refused is told at its own place. A command after 07 is
-- refused with 5 by applying it; where the commands run out before 07, reading answers 1
unfoldable pub play_list_by : Rules → List Command → ℕ → Survey → Played
play_list_by rules [] at s = cond s.ended (ended s) (stopped 1 at)
play_list_by rules (c ∷ cs) at s = met at (rules c s) λ t. play_list_by rules cs (at + length (encode c)) t

-- ---- a book given as its bytes. The same, with each command read where the one before it ends: a book of commands plays as they do (Law.Playing: play_of_list)

-- one command, read at the place and applied: the survey that it leaves, and the place after it
abbrev pub taken_to : ℕ → Report Survey → Report (Survey × ℕ)
taken_to next after = after then λ t. gives (t, next)

unfoldable pub step_by : Rules → List ℕ → ℕ → Survey → Report (Survey × ℕ)
step_by rules book at s = read book at then λ r. taken_to r.1 (rules r.0 s)

-- "bytes after 07 get 5 at the first of them"
abbrev pub after_end : List ℕ → ℕ → Survey → Played
after_end book at s = cond (ltb at (length book)) (stopped 5 at) (ended s)

-- The bytes from a place on. `most` only lets the definition end, since each turn has one less of it: each command takes a byte at least, so that `most` above
-- the number of bytes left is never used up, and which such number it is makes no difference (Law.Playing: enough_commands). r is the survey that the command
-- at the place leaves, and the place after it
unfoldable pub play_up_to_by : Rules → ℕ → List ℕ → ℕ → Survey → Played
play_up_to_by rules zero book at s = stopped 1 at
play_up_to_by rules (suc most) book at s =
    cond s.ended (after_end book at s)
    (met at (step_by rules book at s) λ r.
    play_up_to_by rules most book r.1 r.0)

abbrev pub play_from_by : Rules → List ℕ → ℕ → Survey → Played
play_from_by rules book at s = play_up_to_by rules (suc (length book)) book at s

-- "1 has the book's length": reading at the end answers 1, and no command ends past it (Law.Playing: end_at_length)
abbrev pub play_by : Rules → List ℕ → Played
play_by rules book = play_from_by rules book 0 fresh

-- ---- the code plays a book by `apply`

abbrev pub step : List ℕ → ℕ → Survey → Report (Survey × ℕ)
step = step_by apply

abbrev pub play_up_to : ℕ → List ℕ → ℕ → Survey → Played
play_up_to = play_up_to_by apply

abbrev pub play_from : List ℕ → ℕ → Survey → Played
play_from = play_from_by apply

unfoldable pub play : List ℕ → Played
play = play_by apply

-- With the line l open, a book plays from one place on as it does from another with the line m: what the code passes over in between is noted of the line alone. (A
-- private part of playing; no paper names it.)
abbrev pub PlaysOn : List ℕ → ℕ → Line → ℕ → Line → Type 0
PlaysOn book at l next m = (s : Survey) → s.ended ≡ false → s.line ≡ Some l → play_from book at s ≡ play_from book next (with_line s m)

-- what one command comes to, of a survey s, which is t afterwards
abbrev pub Steps : List ℕ → ℕ → Survey → Result ℕ Refusal → Survey → Type 0
Steps book at s (Ok next) t = s.ended ≡ false → (at < next) × (next ≤ length book) × (play_from book at s ≡ play_from book next t)
Steps book at s (Err why) t = s.ended ≡ false → play_from book at s ≡ stopped (number why) at
