use Rattle.std.proofs.Common.{vec_items, sym, ap, ◌∙◌}
use Rattle.rules.specs.Market.{with_orders, without}
use Rattle.market.specs.Rows.{orders_in}
use Rattle.market.specs.Seen.{market_with}
use Rattle.market.proofs.Reached.{within_set}
use Rattle.market.proofs.Changed.{without_at, without_by_number, absent, rising_set, only_shares}
use Rattle.market.proofs.table.Table.leave.Goals as goal

pub invariant_of-self-clause-ascending : goal.invariant_of-self-clause-ascending
invariant_of-self-clause-ascending c =
    let self = c.args.self.now in
    rising_set 0 (vec_items self.rows) c.in-Some.i c.index_mut-row.result.now 0 c.index_mut-row.ensures.value ∙ self.ascending

pub invariant_of-self-clause-reach : goal.invariant_of-self-clause-reach
invariant_of-self-clause-reach c =
    let self = c.args.self.now in
    within_set self.quote self.farthest (vec_items self.rows) c.in-Some.i c.index_mut-row.result.now 0 c.in-Some.ensures.within c.index_mut-row.ensures.value self.reach

pub returns-in-Some : goal.returns-in-Some
returns-in-Some c =
    let self = c.args.self.now in
    let rows = vec_items self.rows in
    let row = c.index_mut-row.result.now in
    let at = c.in-Some.ensures in
    let is = c.index_mut-row.ensures.value in
    let after = without_at c.args.number rows c.in-Some.i row self.ascending at is in
    record {
      orders = after;
      market = λ tape. ap (λ os. with_orders os (market_with tape self)) after;
      rows = only_shares c.args.number rows c.in-Some.i row 0 at is;
    }

pub returns-in_default-clause-orders : goal.returns-in_default-clause-orders
returns-in_default-clause-orders c =
    let k = c.args.number in
    sym (absent k (without k) (without_by_number k) (orders_in (vec_items c.args.self.now.rows)) c.in_default.ensures)

pub returns-in_default-clause-market : goal.returns-in_default-clause-market
returns-in_default-clause-market c tape = ap (λ os. with_orders os (market_with tape c.args.self.now)) (returns-in_default-clause-orders c)
