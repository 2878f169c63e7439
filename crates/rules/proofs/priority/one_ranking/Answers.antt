use Rattle.rules.proofs.Ranking.{one_ranking, one_answer}
use Rattle.rules.proofs.priority.one_ranking.Goals as goal

pub returns-clause-one : goal.returns-clause-one
returns-clause-one c = one_ranking

pub returns-clause-answer : goal.returns-clause-answer
returns-clause-answer c = one_answer
