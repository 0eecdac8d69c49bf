-- What totalling promises of any book and any lent sheet. `total` (src/total.rt) ensures this, and beside it only what follows: that a refused book leaves the
-- sheet as it was (Law.Total: refused_keeps). Law.WrongPrograms shows what it rules out.
use Rattle.std.specs.Prelude.{ℕ, ◌≡◌, List}
use Rattle.survey.specs.Total.{Answer, total, sheet_after}
use Rattle.survey.specs.Demand3.{Demanded}
use Rattle.survey.specs.Recorded.{AsRecorded}

-- the answer r, and the sheet afterwards
pub record Promised (book sheet : List ℕ) (r : Answer) (after : List ℕ) : Type 0 where
  -- demand 2: both are those of the papers' rules
  pub answered : r ≡ total book sheet
  pub stored : after ≡ sheet_after book sheet
  -- demand 3, of the figures that come back
  pub demand3 : Demanded book r
  -- and beside it: no trees estimated is no trees recorded (document 02, Q-4)
  pub recorded : AsRecorded book r
