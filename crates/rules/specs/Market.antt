-- What a book holds. The market is all that a sweep reads or changes; clock and count stand outside of it.
use Rattle.std.specs.Prelude.{ℕ, ◌-◌, Bool, List, [], ◌∷◌, ◌++◌, is_some, Some, None, Option, ◌==◌, nat_le, if◌then◌else◌}
use Rattle.terms.specs.declared.side.Side.{Side}
use Rattle.terms.specs.declared.side.Side.TheVariants.{Buy, Sell}
use Rattle.terms.specs.Terms.{OrderTerms}
use Rattle.terms.specs.Prices.{ranked, reach}
use Rattle.tape.specs.declared.line.Line.{Line}

-- an order in the book: its identifier's bytes, its entry number, what its ticket says, and the shares left of it
pub record Order : Type 0 where
  pub identifier : List ℕ
  pub number : ℕ
  pub terms : OrderTerms
  pub left : ℕ

-- resting orders by ascending entry number, quote in cents, the end of each side's protection period where one runs,
-- and the tape, the lines of all trades, oldest first
pub record Market : Type 0 where
  pub orders : List Order
  pub bid : ℕ
  pub offer : ℕ
  pub buy_end : Option ℕ
  pub sell_end : Option ℕ
  pub tape : List Line

-- the clock is the latest time that the book was brought to; entries counts those accepted
pub record Book : Type 0 where
  pub market : Market
  pub clock : ℕ
  pub entries : ℕ

abbrev pub side_of : Order → Side
side_of order = order.terms.side

-- when the side's protection period ends; nothing where none runs
abbrev pub end_of : Side → Market → Option ℕ
end_of Buy market = market.buy_end
end_of Sell market = market.sell_end

abbrev pub period_runs : Side → Market → Bool
period_runs side market = is_some (end_of side market)

abbrev pub with_end : Side → Option ℕ → Market → Market
with_end Buy until market = record market { buy_end = until }
with_end Sell until market = record market { sell_end = until }

abbrev pub with_orders : List Order → Market → Market
with_orders orders market = record market { orders = orders }

abbrev pub with_line : Line → Market → Market
with_line line market = record market { tape = market.tape ++ (line ∷ []) }

abbrev pub with_quote : ℕ → ℕ → Market → Market
with_quote bid offer market = record market { bid = bid; offer = offer }

-- the price at which an order stands, as the market is now
unfoldable pub ranked_in : Market → Order → ℕ
ranked_in market order = ranked order.terms market.bid market.offer

-- the price up to which it trades, as the market is now; every rule asks for the reach by this name
unfoldable pub reach_in : Market → Order → ℕ
reach_in market order = reach order.terms (period_runs (side_of order) market) market.bid market.offer

-- the resting order with that entry number
unfoldable pub resting : ℕ → List Order → Option Order
resting number [] = None
resting number (order ∷ others) = if order.number == number then Some order else resting number others

-- all orders but the one with that entry number
unfoldable pub without : ℕ → List Order → List Order
without number [] = []
without number (order ∷ others) =
    let rest = without number others in if order.number == number then rest else order ∷ rest

-- the order with so many shares fewer
abbrev pub less : ℕ → Order → Order
less shares order = record order { left = order.left - shares }

-- the order with so many shares fewer, before others; it leaves where none would be left
abbrev pub lowered : ℕ → Order → List Order → List Order
lowered shares order others = if nat_le order.left shares then others else less shares order ∷ others

-- the order with that entry number has so many shares fewer; every other one is as it was
unfoldable pub lower : ℕ → ℕ → List Order → List Order
lower number shares [] = []
lower number shares (order ∷ others) =
    let rest = lower number shares others in if order.number == number then lowered shares order rest else order ∷ rest

-- those of the orders that pass a test, in their order
unfoldable pub those : (Order → Bool) → List Order → List Order
those passes [] = []
those passes (order ∷ others) = let rest = those passes others in if passes order then order ∷ rest else rest
