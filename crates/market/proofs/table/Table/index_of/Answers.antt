use Rattle.std.proofs.Common.{◌≡◌, vec_items, sym, subst, rules, tests, None, MatchOption}
use Rattle.std.proofs.lemmas.Iterator.{YieldsList-from_slice}
use Rattle.std.proofs.lemmas.Iterator.Search.{position_from_yields_List}
use Rattle.rules.specs.Market.{resting}
use Rattle.market.specs.Rows.{orders_in}
use Rattle.market.specs.Changes.{RestsAt}
use Rattle.market.proofs.Found.{is_it, it_rests}
use Rattle.market.proofs.table.Table.index_of.Goals as goal

pub returns : goal.returns
returns c =
    let rs = vec_items c.args.self.now.rows in
    let k = c.args.number in
    let at = position_from_yields_List (is_it k) _ _ c.position.result c.position.ensures.ran (YieldsList-from_slice rs (cc)) (λ x b q called. search (rules, tests)) in
    subst (λ r. MatchOption r (resting k (orders_in rs) ≡ None) (RestsAt rs k)) (sym at) (it_rests k rs)
