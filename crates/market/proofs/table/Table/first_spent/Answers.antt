use Rattle.std.proofs.Common.{not, vec_items, sym, subst, rules, tests, MatchOption}
use Rattle.std.proofs.lemmas.Iterator.{YieldsList-from_slice}
use Rattle.std.proofs.lemmas.Iterator.Search.{position_from_yields_List}
use Rattle.market.specs.Rows.{rests}
use Rattle.market.specs.Changes.{AllRest, FirstSpent}
use Rattle.market.proofs.Retired.{first_spent}
use Rattle.market.proofs.table.Table.first_spent.Goals as goal

pub returns : goal.returns
returns c =
    let rs = vec_items c.args.self.now.rows in
    let at = position_from_yields_List (λ r. not (rests r)) _ _ c.position.result c.position.ensures.ran (YieldsList-from_slice rs (cc)) (λ x b q called. search (rules, tests)) in
    subst (λ r. MatchOption r (AllRest rs) (FirstSpent rs)) (sym at) (first_spent rs)
