use Rattle.std.proofs.Common.{◌≡◌, ℕ, drop, None, vec_items}
use Rattle.rules.specs.Market.{resting, those}
use Rattle.rules.specs.Sweep.{sweep_each}
use Rattle.market.specs.Rows.{orders_in}
use Rattle.market.specs.Markets.{market_of}
use Rattle.market.specs.Rounds.{woken}
use Rattle.market.proofs.Underway.{Underway}
use Rattle.market.proofs.market.Market.sweep_each.Given as goal

-- what is left of the round gives the whole round, and an order that was not there has not come
abbrev pub invariant-loop-index : goal.invariant-loop-index
invariant-loop-index g l =
    let first = market_of g.T.Tape l.initial.self in
    let here = market_of g.T.Tape l.self in
    let whole = sweep_each l.time (those (woken l.round) first.orders) first in
    Underway g.T.Tape l.initial.self l.self
    ((whole ≡ sweep_each l.time (those (woken l.round) (orders_in (drop l.index (vec_items l.initial.self.table.rows)))) here)
    × ((k : ℕ) → resting k first.orders ≡ None → resting k here.orders ≡ None))
