use Rattle.rules.proofs.Ticks.{ticks_change_only_the_clock}
use Rattle.rules.proofs.laws.ticks_change_only_the_clock.Goals as goal

pub returns-clause-ticks : goal.returns-clause-ticks
returns-clause-ticks c = ticks_change_only_the_clock
