use Rattle.std.proofs.Common.{subst, ◌≡◌, [], ◌∷◌, ◌++◌, vec_items, sym, ap, ◌∙◌}
use Rattle.std.proofs.lemmas.Bool.{lt-ltb}
use Rattle.rules.specs.Market.{with_orders}
use Rattle.market.specs.Rows.{orders_in, rising, row_order}
use Rattle.market.specs.Seen.{market_with}
use Rattle.market.specs.Changes.{AllRest}
use Rattle.market.proofs.Retired.{rests_pushed}
use Rattle.market.proofs.Reached.{within_pushed}
use Rattle.market.proofs.Joined.{orders_in_append, orders_in_one, rising_push}
use Rattle.market.proofs.table.Table.join.Goals as goal

pub invariant_of-self-clause-ascending : goal.invariant_of-self-clause-ascending
invariant_of-self-clause-ascending c =
    let self = c.args.self.now in
    let rows = vec_items self.rows in
    ap (rising 0) c.push_reserved.ensures.items ∙ rising_push 0 rows c.args.row self.ascending c.requires.newest

pub invariant_of-self-clause-reach : goal.invariant_of-self-clause-reach
invariant_of-self-clause-reach c =
    let self = c.args.self.now in
    within_pushed self.quote self.farthest c.widen-self.result (vec_items self.rows) (vec_items c.push_reserved.new.self) c.args.row c.widen-self.ensures c.push_reserved.ensures.items self.reach

pub invariant_of-self-clause-whole : goal.invariant_of-self-clause-whole
invariant_of-self-clause-whole c kept =
    let row = c.args.row in
    subst AllRest (sym c.push_reserved.ensures.items) (rests_pushed (vec_items c.args.self.now.rows) row (lt-ltb 0 row.left c.requires.some) (c.args.self.now.whole kept))

pub returns-clause-market : goal.returns-clause-market
returns-clause-market c tape =
    let rows = vec_items c.args.self.now.rows in
    let row = c.args.row in
    let orders : orders_in (vec_items c.push_reserved.new.self) ≡ orders_in rows ++ (row_order row ∷ []) =
    ap orders_in c.push_reserved.ensures.items ∙ orders_in_append rows (row ∷ []) ∙ ap (λ os. orders_in rows ++ os) (orders_in_one row (lt-ltb 0 row.left c.requires.some))
    in
    ap (λ os. with_orders os (market_with tape c.args.self.now)) orders
