use Rattle.std.proofs.Common.{◌≡◌, ◌-◌}
use Rattle.rules.specs.Sweep.{lines}
use Rattle.market.specs.Rows.{row_order}
use Rattle.market.specs.Markets.{market_of}
use Rattle.market.proofs.Underway.{Underway}
use Rattle.market.proofs.market.Market.sweep.Given as goal

-- what is left of the sweep, from here on, gives the whole sweep
abbrev pub invariant-loop : goal.invariant-loop
invariant-loop g l =
    let whole = lines l.turns l.time l.price (row_order l.taker) (market_of g.T.Tape l.initial.self) in
    Underway g.T.Tape l.initial.self l.self (whole ≡ lines (l.turns - l.counter) l.time l.price (row_order l.taker) (market_of g.T.Tape l.self))
