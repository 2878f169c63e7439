use Rattle.std.proofs.Common.{ℕ, ◌^◌, ◌≤◌, ◌&&◌, eqb, min, length, vec_items, ◌∙◌, arith, rules, tests}
use Rattle.std.proofs.lemmas.Iterator.{YieldsList-from_slice, YieldsList-from_map}
use Rattle.std.proofs.lemmas.Iterator.Consumers.{sum_by_from_yields_List, fits_by_from_yields_list}
use Rattle.rules.specs.Market.{ranked_in}
use Rattle.rules.specs.Sweep.{displayed_shares, shows}
use Rattle.market.specs.declared.table.Row.{Row}
use Rattle.market.specs.Displays.{shares_there}
use Rattle.market.specs.Rows.{most_rows, row_order}
use Rattle.market.specs.Seen.{seen}
use Rattle.market.proofs.Folds.{sum_resting, none_of, few_shares}
use Rattle.market.proofs.table.Table.displayed_shares.Goals as goal

-- that the sum fits: each row's shares do
pub sum-requires-clause-fits : goal.sum-requires-clause-fits
sum-requires-clause-fits c =
    let rs = vec_items c.args.self.now.rows in
    let m = seen c.args.self.now in
    let few : length rs ≤ most_rows = omega (arith, c.args.self.now.rows.ok.0, c.args.self.now.few) in
    let h : Row → ℕ = λ r. min (shares_there m c.args.side c.args.price (row_order r)) (2 ^ 32) in
    fits_by_from_yields_list h rs c.map.result (2 ^ 64)
    (YieldsList-from_map _ h (YieldsList-from_slice rs (cc)) c.map.ensures.closure (λ x r q called. search (rules, tests)))
    (few_shares (λ r. shares_there m c.args.side c.args.price (row_order r)) rs few)

pub returns : goal.returns
unfolding displayed_shares
returns c =
    let rs = vec_items c.args.self.now.rows in
    let m = seen c.args.self.now in
    sum_by_from_yields_List (λ r. shares_there m c.args.side c.args.price (row_order r)) rs c.map.result c.sum.result c.sum.ensures.ran
    (YieldsList-from_map _ (λ r. shares_there m c.args.side c.args.price (row_order r)) (YieldsList-from_slice rs (cc)) c.map.ensures.closure (λ x r q called. search (rules, tests)))
    ∙ sum_resting (shares_there m c.args.side c.args.price) (λ r f. none_of (shows c.args.side (row_order r) && eqb (ranked_in m (row_order r)) c.args.price) r f) rs
