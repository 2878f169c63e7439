use Rattle.std.proofs.Common.{vec_items, sym, ap, ◌∙◌, subst}
use Rattle.rules.specs.Market.{with_orders}
use Rattle.market.specs.Rows.{orders_in, rising}
use Rattle.market.specs.Seen.{market_with}
use Rattle.market.specs.Changes.{Retired}
use Rattle.market.proofs.Reached.{within_removed}
use Rattle.market.proofs.Retired.{retired, retired_rising, retired_orders}
use Rattle.market.proofs.table.Table.retire.Goals as goal

pub invariant_of-self-clause-ascending : goal.invariant_of-self-clause-ascending
invariant_of-self-clause-ascending c =
    let self = c.args.self.now in
    ap (rising 0) c.remove-row.ensures.items ∙ retired_rising (vec_items self.rows) c.in_ok-i.i c.remove-row.result c.in_ok-i.ensures c.remove-row.ensures.value self.ascending

pub invariant_of-self-clause-reach : goal.invariant_of-self-clause-reach
invariant_of-self-clause-reach c =
    let self = c.args.self.now in
    within_removed self.quote self.farthest (vec_items self.rows) (vec_items c.remove-row.new.self) c.in_ok-i.i c.remove-row.ensures.items self.reach

pub returns-clause-orders : goal.returns-clause-orders
returns-clause-orders c =
    ap orders_in c.remove-row.ensures.items
    ∙ retired_orders (vec_items c.args.self.now.rows) c.in_ok-i.i c.remove-row.result c.in_ok-i.ensures c.remove-row.ensures.value

pub returns-clause-market : goal.returns-clause-market
returns-clause-market c tape = ap (λ os. with_orders os (market_with tape c.args.self.now)) (returns-clause-orders c)

pub returns-clause-told : goal.returns-clause-told
returns-clause-told c =
    let rows = vec_items c.args.self.now.rows in
    let row = c.remove-row.result in
    subst (λ xs. Retired rows xs row.identifier) (sym c.remove-row.ensures.items) (retired rows c.in_ok-i.i row c.in_ok-i.ensures c.remove-row.ensures.value)
