use Rattle.rules.proofs.Numbers.{entries_counted, numbered_in_turn, numbers_ascend}
use Rattle.rules.proofs.laws.entries_are_numbered.Goals as goal

pub returns-clause-counted : goal.returns-clause-counted
returns-clause-counted c = entries_counted

pub returns-clause-turn : goal.returns-clause-turn
returns-clause-turn c = numbered_in_turn

pub returns-clause-ascend : goal.returns-clause-ascend
returns-clause-ascend c = numbers_ascend
