-- `survey::reader::BookReader::next` meets its contract: after a refusal the cursor is where it was.
use Rattle.std.proofs.Common.{◌≡◌, ℕ, Result, Ok, Err, refl, sym, ap}
use Rattle.std.proofs.lemmas.Bool.{false≢true}
use Rattle.std.specs.Result.{IsErr}
use Rattle.biomass.specs.Report.{report}
use Rattle.codec.specs.Reading.{place_after}
use Rattle.codec.specs.Refusal.{number}
use Rattle.codec.specs.declared.command.Command.{Command}
use Rattle.codec.specs.declared.refusal.Refusal.{Refusal}
use Rattle.survey.specs.declared.reader.BookReader.{BookReader}
use Rattle.survey.proofs.reader.BookReader.next.Goals as goal

stays : (at : ℕ) (r : Result (Command × ℕ) Refusal) → IsErr r → place_after at (report number r) ≡ at
stays at (Err why) e = refl
stays at (Ok read) e = absurd (false≢true e)

-- a reader with its cursor at another place
abbrev moved : BookReader → ℕ → BookReader
moved reader at = record { book = reader.book; at = at }

pub returns-in_err-command-clause-cursor : goal.returns-in_err-command-clause-cursor
returns-in_err-command-clause-cursor c = ap (moved c.args.self.now) (sym (stays c.args.self.now.at _ c.from_residual.ensures.0))
