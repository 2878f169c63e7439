-- A sweep: one order is the taker, at the reach that it has when the sweep begins, until it is filled or finds no partner.
use Rattle.std.specs.Prelude.{ℕ, zero, suc, ◌+◌, min, Bool, true, false, not, ◌&&◌, List, [], ◌∷◌, length, Some, None, fold, sum_by, ◌==◌, nat_lt, if◌then◌else◌}
use Rattle.terms.specs.declared.side.Side.{Side}
use Rattle.terms.specs.declared.side.Side.TheVariants.{Buy, Sell}
use Rattle.terms.specs.declared.kind.Kind.{Kind}
use Rattle.terms.specs.declared.kind.Kind.TheVariants.{DisplayedLimit, HiddenLimit, DisplayedMdo, HiddenMdo, MidpointPeg}
use Rattle.terms.specs.Sides.{same_side, outranks}
use Rattle.tape.specs.declared.line.Line.{Line}
use Rattle.tape.specs.declared.line.Mark.{Mark}
use Rattle.tape.specs.declared.line.Mark.TheVariants.{Nothing, BidDepleted, OfferDepleted}
use Rattle.rules.specs.Limits.{round_lot, protection_period}
use Rattle.rules.specs.Market.{Order, Market, side_of, with_end, with_orders, with_line, ranked_in, reach_in, resting, lower}
use Rattle.rules.specs.Priority.{line_price, partner_for}

abbrev pub displayed : Kind → Bool
displayed DisplayedLimit = true
displayed HiddenLimit = false
displayed DisplayedMdo = true
displayed HiddenMdo = false
displayed MidpointPeg = false

-- the order is displayed, and of the side
abbrev pub shows : Side → Order → Bool
shows side order = displayed order.terms.kind && same_side (side_of order) side

-- no displayed order of the side ranks better than at the price
unfoldable pub best_displayed : Market → Side → ℕ → List Order → Bool
best_displayed market side price orders =
    fold (λ so_far order. so_far && not (shows side order && outranks side (ranked_in market order) price)) true orders

-- the displayed shares of the side at the price
unfoldable pub displayed_shares : Market → Side → ℕ → List Order → ℕ
displayed_shares market side price orders =
    sum_by (λ order. if shows side order && ranked_in market order == price then order.left else 0) orders

-- the partner is displayed, nothing displayed on its side ranks better, and in `after`, with the partner lowered, less than a
-- round lot is displayed at the price at which it ranks
unfoldable pub depletes : Market → Order → List Order → Bool
depletes market partner after =
    displayed partner.terms.kind
    && (best_displayed market (side_of partner) (ranked_in market partner) market.orders
    && nat_lt (displayed_shares market (side_of partner) (ranked_in market partner) after) round_lot)

-- a depleted buy side is a depleted bid
abbrev pub side_mark : Side → Mark
side_mark Buy = BidDepleted
side_mark Sell = OfferDepleted

-- the lesser share count of taker and partner
abbrev pub traded : Order → Order → ℕ
traded taker partner = min partner.left taker.left

-- the fields of a line
abbrev pub line_of : ℕ → ℕ → Mark → Order → Order → Line
line_of time price mark taker partner =
    record {
      time = time;
      partner = partner.number;
      taker = taker.number;
      shares = traded taker partner;
      price = price;
      mark = mark;
    }

-- the line goes on the tape; where it depletes it is marked, and the partner's side is protected from its time on
abbrev pub recorded : Bool → ℕ → ℕ → Order → Order → Market → Market
recorded false time price taker partner market = with_line (line_of time price Nothing taker partner) market
recorded true time price taker partner market =
    with_end (side_of partner) (Some (time + protection_period))
    (with_line (line_of time price (side_mark (side_of partner)) taker partner) market)

-- the partner is lowered, then the taker
abbrev pub after_trade : Order → Order → List Order → List Order
after_trade taker partner orders =
    lower taker.number (traded taker partner) (lower partner.number (traded taker partner) orders)

-- one line: the taker, at its price, with the partner
unfoldable pub trade : ℕ → ℕ → Order → Order → Market → Market
trade time price taker partner market =
    recorded (depletes market partner (lower partner.number (traded taker partner) market.orders)) time
    (line_price market price partner) taker partner (with_orders (after_trade taker partner market.orders) market)

-- line after line, as long as the order rests and has a partner; each is with the partner that goes first by then.
-- Each line ends an order, so as many turns as orders are enough
unfoldable pub lines : ℕ → ℕ → ℕ → Order → Market → Market
lines zero time price order market = market
lines (suc turns) time price order market =
    elim (resting order.number market.orders) [
      | None ↦ market
      | Some taker ↦ elim (partner_for order price market) [
        | None ↦ market
        | Some partner ↦ lines turns time price order (trade time price taker partner market)
      ]
    ]

-- the order as taker, at its present reach; one that rests no more is passed over
unfoldable pub sweep : ℕ → Order → Market → Market
sweep time order market = lines (length market.orders) time (reach_in market order) order market

-- one order after another
unfoldable pub sweep_each : ℕ → List Order → Market → Market
sweep_each time [] market = market
sweep_each time (order ∷ others) market = sweep_each time others (sweep time order market)
