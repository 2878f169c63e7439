use Rattle.std.proofs.Common.{vec_items, ◌∙◌, rules, tests}
use Rattle.std.proofs.lemmas.Iterator.{YieldsList-from_slice}
use Rattle.std.proofs.lemmas.Iterator.Consumers.{YieldsList-from_filter, count_from_yields_List}
use Rattle.market.specs.Rows.{rests}
use Rattle.market.proofs.Found.{how_many}
use Rattle.market.proofs.table.Table.len_resting.Goals as goal

pub returns : goal.returns
returns c =
    let rs = vec_items c.args.self.now.rows in
    count_from_yields_List c.filter.result c.count.result c.count.ensures.ran (YieldsList-from_filter _ rests (YieldsList-from_slice rs (cc)) c.filter.ensures.closure (λ x b q called. search (rules, tests)))
    ∙ how_many rs
