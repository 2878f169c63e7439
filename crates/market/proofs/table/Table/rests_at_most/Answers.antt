use Rattle.std.proofs.Common.{ℕ, ◌≤◌, length, vec_items, sym, ◌∙◌, arith}
use Rattle.std.proofs.lemmas.Bool.{le-leb}
use Rattle.market.specs.Seen.{orders_of}
use Rattle.market.proofs.Found.{resting_few}
use Rattle.market.proofs.table.Table.rests_at_most.Goals as goal

-- where no more rows stand, no more orders rest
pub returns-then-len-count : goal.returns-then-len-count
returns-then-len-count c =
    let self = c.args.self.now in
    let count : ℕ = c.args.count in
    let fewer : length (orders_of self) ≤ count =
    omega (arith, c.len.ensures, self.rows.ok.0, resting_few (vec_items self.rows), c.if-len-count.true)
    in
    le-leb c.len.result count c.if-len-count.true ∙ sym (le-leb (length (orders_of self)) count fewer)
