use Rattle.rules.proofs.Numbers.{shares_remain}
use Rattle.rules.proofs.laws.shares_remain.Goals as goal

pub returns-clause-remain : goal.returns-clause-remain
returns-clause-remain c = shares_remain
