-- `survey::survey::Survey::declared_with` meets its contract: of an id above 15 nothing stands in the table.
use Rattle.std.proofs.Common.{◌∙◌, arith}
use Rattle.survey.proofs.Law.Checks.{past_table}
use Rattle.survey.proofs.survey.Survey.declared_with.Goals as goal

pub returns : goal.returns
returns c = c.standing.ensures ∙ past_table c.args.self.now c.args.id (omega arith)
