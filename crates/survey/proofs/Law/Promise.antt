-- What totalling promises of a book and a sheet can be kept: the answer of the papers' rules and the sheet after them are as it says.
use Rattle.std.specs.Prelude.{ℕ, List, refl}
use Rattle.survey.specs.Total.{total, sheet_after}
use Rattle.survey.specs.Promise.{Promised}
use Rattle.survey.proofs.Law.Demand3.{demanded}
use Rattle.survey.proofs.Law.Recorded.{as_recorded}

pub kept_promise : (book sheet : List ℕ) → Promised book sheet (total book sheet) (sheet_after book sheet)
kept_promise book sheet = record { answered = refl; stored = refl; demand3 = demanded book sheet; recorded = as_recorded book sheet }
