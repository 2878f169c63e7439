use Rattle.rules.proofs.Marks.{tape_explains_discretion}
use Rattle.rules.proofs.Why.{reasons_hold}
use Rattle.rules.proofs.laws.tape_explains_discretion.Goals as goal

pub returns-clause-discretion : goal.returns-clause-discretion
returns-clause-discretion c = tape_explains_discretion

pub returns-clause-reasons : goal.returns-clause-reasons
returns-clause-reasons c = reasons_hold
