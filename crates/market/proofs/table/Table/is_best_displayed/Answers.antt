use Rattle.std.proofs.Common.{not, ◌&&◌, vec_items, ◌∙◌, rules, tests}
use Rattle.std.proofs.lemmas.Iterator.{YieldsList-from_slice}
use Rattle.std.proofs.lemmas.Iterator.Consumers.{YieldsList-from_filter}
use Rattle.std.proofs.lemmas.Iterator.Search.{all_from_yields_List}
use Rattle.terms.specs.Sides.{outranks}
use Rattle.rules.specs.Market.{ranked_in}
use Rattle.rules.specs.Sweep.{shows, best_displayed}
use Rattle.market.specs.Rows.{row_order, rests}
use Rattle.market.specs.Seen.{seen}
use Rattle.market.proofs.Folds.{all_resting}
use Rattle.market.proofs.table.Table.is_best_displayed.Goals as goal

pub returns : goal.returns
unfolding best_displayed
returns c =
    let rs = vec_items c.args.self.now.rows in
    let s = c.args.side in
    let m = seen c.args.self.now in
    all_from_yields_List (λ r. not (shows s (row_order r) && outranks s (ranked_in m (row_order r)) c.args.price)) _ _ c.all.result c.all.ensures.ran
    (YieldsList-from_filter _ rests (YieldsList-from_slice rs (cc)) c.filter.ensures.closure (λ x b q called. search (rules, tests)))
    (λ x b q called. search (rules, tests))
    ∙ all_resting (λ o. not (shows s o && outranks s (ranked_in m o) c.args.price)) rs
