use Rattle.rules.specs.Market.{ranked_in}
use Rattle.market.proofs.table.Table.ranked.Goals as goal

pub returns : goal.returns
unfolding ranked_in
returns c = c.ranked_price.ensures
