use Rattle.std.proofs.Common.{ℕ, ◌^◌, ◌≤◌, min, length, vec_items, ◌∙◌, arith, rules, tests}
use Rattle.std.proofs.lemmas.Iterator.{YieldsList-from_slice, YieldsList-from_map}
use Rattle.std.proofs.lemmas.Iterator.Consumers.{YieldsList-from_filter, count_from_yields_List, sum_by_from_yields_List, fits_by_from_yields_list}
use Rattle.market.specs.declared.table.Row.{Row}
use Rattle.market.specs.Rows.{most_rows}
use Rattle.market.proofs.Folds.{few_shares}
use Rattle.market.proofs.Tallies.{rests_here, shares_here, counted, summed}
use Rattle.market.proofs.figures.Tally.of.Goals as goal

-- that the sum fits: each row's shares do
pub sum-requires-clause-fits : goal.sum-requires-clause-fits
sum-requires-clause-fits c =
    let rs = vec_items c.args.table.now.rows in
    let few : length rs ≤ most_rows = omega (arith, c.args.table.now.rows.ok.0, c.args.table.now.few) in
    let h : Row → ℕ = λ r. min (shares_here c.args.side r) (2 ^ 32) in
    fits_by_from_yields_list h rs c.map.result (2 ^ 64)
    (YieldsList-from_map _ h (YieldsList-from_slice rs (cc)) c.map.ensures.closure (λ x r q called. search (rules, tests)))
    (few_shares (shares_here c.args.side) rs few)

pub returns : goal.returns
returns c =
    let rs = vec_items c.args.table.now.rows in
    let s = c.args.side in
    record {
      orders =
          count_from_yields_List c.filter.result c.count.result c.count.ensures.ran
          (YieldsList-from_filter _ (rests_here s) (YieldsList-from_slice rs (cc)) c.filter.ensures.closure (λ x b q called. search (rules, tests)))
          ∙ counted s rs;
      shares =
          sum_by_from_yields_List (shares_here s) rs c.map.result c.sum.result c.sum.ensures.ran
          (YieldsList-from_map _ (shares_here s) (YieldsList-from_slice rs (cc)) c.map.ensures.closure (λ x r q called. search (rules, tests)))
          ∙ summed s rs;
    }
