use Rattle.std.proofs.Common.{rules}
use Rattle.directory.specs.Table.{home_place}
use Rattle.directory.proofs.probing.home_place.Goals as goal

pub returns-clause-value : goal.returns-clause-value
unfolding home_place
returns-clause-value c = search rules
