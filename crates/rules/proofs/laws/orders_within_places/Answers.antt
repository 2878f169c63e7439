use Rattle.rules.proofs.Numbers.{orders_within_places}
use Rattle.rules.proofs.laws.orders_within_places.Goals as goal

pub returns-clause-within : goal.returns-clause-within
returns-clause-within c = orders_within_places
