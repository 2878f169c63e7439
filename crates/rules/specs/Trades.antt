-- What a line tells: the trade that was due in the market as it stood when the line was made.
use Rattle.std.specs.Prelude.{◌≡◌, ℕ, min, List, [], ◌∷◌, ◌++◌, Some, None, if◌then◌else◌}
use Rattle.std.specs.List.{ContainsAt as Has}
use Rattle.terms.specs.declared.side.Side.{Side}
use Rattle.tape.specs.declared.line.Line.{Line}
use Rattle.tape.specs.declared.line.Mark.TheVariants.{Nothing}
use Rattle.rules.specs.Market.{Order, Market, side_of, reach_in, with_orders, with_quote, with_end, without, lower}
use Rattle.rules.specs.Priority.{line_price, partner_for}
use Rattle.rules.specs.Sweep.{depletes, side_mark, trade}
use Rattle.rules.specs.Calls.{Call, joined}
use Rattle.rules.specs.Runs.{opened, run}

-- both orders rest, and the partner is the next one for the taker at its reach
pub record Meeting (market : Market) (taker partner : Order) : Type 0 where
  pub taker_rests : Has market.orders taker
  pub partner_rests : Has market.orders partner
  pub next : partner_for taker (reach_in market taker) market ≡ Some partner

-- the least that can happen to a market: a new order joins, one leaves, the quote is new, a period ends, or two orders trade
pub data Step : Market → Market → Type 0 where
  joins : (market : Market) (order : Order) → order.left ≡ order.terms.shares → Step market (joined order market)
  leaves : (market : Market) (number : ℕ) → Step market (with_orders (without number market.orders) market)
  quotes : (market : Market) (bid offer : ℕ) → Step market (with_quote bid offer market)
  ends : (market : Market) (side : Side) → Step market (with_end side None market)
  trades : (market : Market) (time : ℕ) (taker partner : Order) → Meeting market taker partner
      → Step market (trade time (reach_in market taker) taker partner market)

-- step after step, the later market comes of the earlier one
pub data Leads : Market → Market → Type 0 where
  here : (market : Market) → Leads market market
  on : (first market next : Market) → Leads first market → Step market next → Leads first next

-- some market that the first leads to, and that leads to the last, has only the earlier lines on its tape, taker and partner meet
-- in it, and the line tells their trade: the lesser of the shares left of the two, at the line price, marked exactly if it depletes
-- the partner's side. Which calls lead there is left open
pub record LineTellsTrade (first last : Market) (earlier : List Line) (line : Line) : Type 0 where
  pub market : Market
  pub taker : Order
  pub partner : Order
  pub before : Leads first market
  pub tape : market.tape ≡ earlier
  pub meeting : Meeting market taker partner
  pub taker_number : line.taker ≡ taker.number
  pub partner_number : line.partner ≡ partner.number
  pub shares : line.shares ≡ min partner.left taker.left
  pub price : line.price ≡ line_price market (reach_in market taker) partner
  pub mark : line.mark ≡ (if depletes market partner (lower partner.number line.shares market.orders) then side_mark (side_of partner) else Nothing)
  pub after : Leads (trade line.time (reach_in market taker) taker partner market) last

-- so does each line that stands on the tape after the earlier ones
abbrev pub TradesTold : Market → Market → List Line → List Line → Type 0
TradesTold first last earlier [] = Unit {0}
TradesTold first last earlier (line ∷ later) = LineTellsTrade first last earlier line × TradesTold first last (earlier ++ (line ∷ [])) later

-- after every run, each line of the tape tells a trade between its opening and its end
abbrev pub LinesTellTrades : Type 0
LinesTellTrades =
    (bid offer room : ℕ) (calls : List Call)
    → let market : Market = (run room calls (opened bid offer)).book.market in
    TradesTold (opened bid offer).market market [] market.tape
