use Rattle.std.proofs.Common.{vec_items}
use Rattle.directory.proofs.Gap.{Walking}
use Rattle.directory.proofs.probing.close_gap.Given as goal

abbrev pub invariant-loop-step : goal.invariant-loop-step
invariant-loop-step l = Walking (vec_items l.initial.places) l.gap (vec_items l.places) l.hole l.step
