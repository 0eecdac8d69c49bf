-- `sheet::TreesDisplay::fmt` meets its contract: each place is written as the digit that it is, also where it is 0. Which number each is, is left to arithmetic.
use Rattle.std.proofs.Common.{◌≡◌, ℕ, ◌/◌, ◌%◌, ◌∷◌, ◌++◌, append_assoc, decimal, arith}
use Rattle.std.proofs.lemmas.Fmt.{decimal_digit}
use Rattle.std.proofs.Output.{has_written_of_eq}
use Rattle.sheet.specs.Lines.{two_places}
use Rattle.sheet.proofs.TreesDisplay.fmt.Goals as goal

digit_by_digit : (n tens ones : ℕ) → tens ≡ n % 100 / 10 → ones ≡ n % 100 % 10 → decimal (n / 100) ++ 46 ∷ (decimal tens ++ decimal ones) ≡ two_places n
digit_by_digit n tens ones is_tens is_ones = grind (arith, append_assoc, decimal_digit)

pub returns-clause-writes : goal.returns-clause-writes
returns-clause-writes g c plain ok =
    has_written_of_eq _ _ _ _ _ (digit_by_digit c.args.self.now.0 _ _ (omega arith) (omega arith)) (c.write.ensures.writes plain ok)
