use Rattle.std.proofs.Common.{vec_items}
use Rattle.directory.proofs.Look.{Looking}
use Rattle.directory.proofs.hashed_directory.HashedDirectory.look.Given as goal

abbrev pub invariant-loop-step : goal.invariant-loop-step
invariant-loop-step l = Looking (vec_items l.self.places) l.id l.step
