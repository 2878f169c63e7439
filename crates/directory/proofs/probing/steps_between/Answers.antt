use Rattle.std.proofs.Common.{refl}
use Rattle.directory.specs.Table.{steps}
use Rattle.directory.proofs.probing.steps_between.Goals as goal

pub returns : goal.returns
unfolding steps
returns c = refl
