use Rattle.rules.proofs.Partners.{best_partner}
use Rattle.rules.proofs.priority.no_partner_goes_ahead.Goals as goal

pub returns-clause-best : goal.returns-clause-best
returns-clause-best c = best_partner
