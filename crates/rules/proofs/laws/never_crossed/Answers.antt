use Rattle.rules.proofs.Uncrossed.{never_crossed}
use Rattle.rules.proofs.laws.never_crossed.Goals as goal

pub returns-clause-never : goal.returns-clause-never
returns-clause-never c = never_crossed
