use Rattle.std.proofs.Common.{◌≡◌, ◌-◌}
use Rattle.rules.specs.Clock.{end_periods}
use Rattle.market.specs.Markets.{market_of}
use Rattle.market.proofs.Underway.{Underway}
use Rattle.market.proofs.market.Market.settle.Given as goal

-- what is left of the settling gives the whole
abbrev pub invariant-loop : goal.invariant-loop
invariant-loop g l =
    let whole = end_periods l.periods l.time (market_of g.T.Tape l.initial.self) in
    Underway g.T.Tape l.initial.self l.self (whole ≡ end_periods (l.periods - l.counter) l.time (market_of g.T.Tape l.self))
