use Rattle.std.proofs.Common.{vec_items, sym, ◌∙◌, subst, rules, tests}
use Rattle.std.proofs.lemmas.Iterator.{YieldsList-from_slice}
use Rattle.std.proofs.lemmas.Iterator.Consumers.{YieldsList-from_filter}
use Rattle.std.specs.Option.{option_map}
use Rattle.market.specs.Rows.{row_order, orders_in}
use Rattle.market.specs.Seen.{seen}
use Rattle.market.proofs.Best.{best_of}
use Rattle.market.specs.Ranks.{NextRanked}
use Rattle.market.proofs.Next.{later_rows, goes_before, next_best}
use Rattle.market.proofs.ranking.Ranking.next_after.Goals as goal

pub returns : goal.returns
returns c =
    let rs = vec_items c.args.self.now.table.now.rows in
    let s = c.args.self.now.side in
    let m = seen c.args.self.now.table.now in
    let told = option_map row_order c.args.told in
    let best = best_of _ _ (goes_before m s told) (λ a z r q called. search (rules, tests)) c.filter.result c.reduce.result c.reduce.ensures.ran
    (YieldsList-from_filter _ (later_rows m s told) (YieldsList-from_slice rs (cc)) c.filter.ensures.closure (λ x b q called. search (rules, tests))) in
    subst (λ r. NextRanked m s told (orders_in rs) (option_map row_order r)) (sym (c.copied.ensures ∙ best)) (next_best m s told rs)
