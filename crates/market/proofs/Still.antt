-- What does not depend on the tape: periods and prices are the same beside every tape.
-- Cite: end_still, reach_still; a ranked price computes, unfolding ranked_in.
use Rattle.std.proofs.Common.{◌≡◌, List, is_some, refl, ap}
use Rattle.terms.specs.Prices.{reach}
use Rattle.terms.specs.declared.side.Side.{Side}
use Rattle.terms.specs.declared.side.Side.TheVariants.{Buy, Sell}
use Rattle.tape.specs.declared.line.Line.{Line}
use Rattle.rules.specs.Market.{Order, side_of, end_of, reach_in}
use Rattle.market.specs.declared.table.Table.{Table}
use Rattle.market.specs.Seen.{market_with, seen}

module _ (ls : List Line) (b : Table) where
  pub end_still : (s : Side) → end_of s (seen b) ≡ end_of s (market_with ls b)
  end_still Buy = refl
  end_still Sell = refl

  pub reach_still : (o : Order) → reach_in (seen b) o ≡ reach_in (market_with ls b) o
  unfolding reach_in
  reach_still o = ap (λ e. reach o.terms (is_some e) b.quote.bid b.quote.offer) (end_still (side_of o))
