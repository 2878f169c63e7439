use Rattle.rules.proofs.Grown.{tape_only_grows}
use Rattle.rules.proofs.laws.lines_within_orders.Goals as goal

pub returns-clause-grows : goal.returns-clause-grows
returns-clause-grows c = tape_only_grows
