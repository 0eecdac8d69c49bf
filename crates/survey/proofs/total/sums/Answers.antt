-- `survey::total::sums` meets its contract: the sums of at most 32 rows, none above the greatest line, fit 64 bits.
use Rattle.std.proofs.Common.{rules}
use Rattle.std.proofs.iter.runs.Made.{chains}
use Rattle.survey.proofs.Law.Sums.{lows_fit, highs_fit, sum_added}
use Rattle.survey.proofs.total.sums.Goals as goal

pub sum-requires-clause-fits : goal.sum-requires-clause-fits
sum-requires-clause-fits c = let fits = lows_fit c.args.rows.now c.requires in search rules

pub sum-requires-2-clause-fits : goal.sum-requires-2-clause-fits
sum-requires-2-clause-fits c = let fits = highs_fit c.args.rows.now c.requires in search rules

pub returns : goal.returns
returns c = search (rules, chains, sum_added, refl)
