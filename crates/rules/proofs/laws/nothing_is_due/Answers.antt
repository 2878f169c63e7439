use Rattle.rules.proofs.Finished.{nothing_due}
use Rattle.rules.proofs.laws.nothing_is_due.Goals as goal

pub returns-clause-due : goal.returns-clause-due
returns-clause-due c = nothing_due
