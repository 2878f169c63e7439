use Rattle.std.proofs.Common.{◌≡◌}
use Rattle.day_file.specs.Desks.{running_of}
use Rattle.day_file.proofs.desk.Desk.tell_trades.Given as goal

abbrev pub invariant-loop-place : goal.invariant-loop-place
invariant-loop-place g l = running_of l.self ≡ running_of l.initial.self
