-- How a sweep and a settling leave the market of the code: as they leave the rule book's. Cite sweep_ended and settle_ended.
use Rattle.std.proofs.Common.{ℕ, sym, subst}
use Rattle.tape.specs.declared.tape.Tape.{Ghosts as TapeOf}
use Rattle.rules.specs.Clock.{settle}
use Rattle.rules.specs.Finished.{FilledOrAlone, NothingDueAt}
use Rattle.rules.specs.Market.{Order, Market, reach_in}
use Rattle.rules.specs.Sweep.{sweep}
use Rattle.rules.proofs.Finished.{sweep_finished, settle_done}
use Rattle.market.specs.declared.market.Market.{Market as TableAndTape}
use Rattle.market.specs.Markets.{market_of, Follows}

module _ {T : Type 0} (make : TapeOf T) (old new : TableAndTape T) (time : ℕ) where
  pub sweep_ended : (taker : Order) → Follows make old new (sweep time taker) → FilledOrAlone taker (reach_in (market_of make old) taker) (market_of make new)
  sweep_ended taker swept =
      subst (λ (m : Market). FilledOrAlone taker (reach_in (market_of make old) taker) m) (sym swept.market) (sweep_finished time taker (market_of make old))

  pub settle_ended : Follows make old new (settle time) → NothingDueAt time (market_of make new)
  settle_ended settled = subst (λ (m : Market). NothingDueAt time m) (sym settled.market) (settle_done time (market_of make old))
