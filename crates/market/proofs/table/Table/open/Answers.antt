use Rattle.std.proofs.Common.{sym, subst, refl, ap, ◌∙◌}
use Rattle.rules.specs.Market.{with_orders}
use Rattle.rules.specs.Runs.{opened}
use Rattle.market.specs.Rows.{orders_in}
use Rattle.market.specs.Changes.{AllRest}
use Rattle.market.proofs.Retired.{rests_none}
use Rattle.market.proofs.Joined.{orders_in_none}
use Rattle.market.proofs.table.Table.open.Goals as goal

pub invariant_of-result-clause-whole : goal.invariant_of-result-clause-whole
invariant_of-result-clause-whole c kept = subst AllRest (sym c.in_ok-rows.ensures.items) rests_none

pub returns : goal.returns
returns c =
    let empty = c.in_ok-rows.ensures.items in
    let quote = c.args.quote in
    (empty, refl, ap (λ os. with_orders os (opened quote.bid quote.offer).market) (ap orders_in empty ∙ orders_in_none))
