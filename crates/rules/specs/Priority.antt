-- Who trades next with a taker, and at which price. A taker is the order that is being swept, at a price of its own;
-- its partners are the orders of the other side that it can trade with.
use Rattle.std.specs.Prelude.{ℕ, Bool, ◌&&◌, ◌||◌, List, Some, None, fold, Option, ◌==◌, nat_lt, if◌then◌else◌}
use Rattle.terms.specs.declared.side.Side.{Side}
use Rattle.terms.specs.declared.kind.Kind.{Kind}
use Rattle.terms.specs.declared.kind.Kind.TheVariants.{DisplayedLimit, HiddenLimit, DisplayedMdo, HiddenMdo, MidpointPeg}
use Rattle.terms.specs.Sides.{opposite, same_side, meets, outranks}
use Rattle.rules.specs.Market.{Order, Market, side_of, ranked_in, reach_in}

-- 1 displayed, 2 hidden limit or hidden MDO, 3 midpoint peg
abbrev pub class_of : Kind → ℕ
class_of DisplayedLimit = 1
class_of HiddenLimit = 2
class_of DisplayedMdo = 1
class_of HiddenMdo = 2
class_of MidpointPeg = 3

-- an order of the side whose reach meets or passes the taker's price
abbrev pub is_partner : Market → Side → ℕ → Order → Bool
is_partner market side price order = same_side (side_of order) side && meets side (reach_in market order) price

-- what a taker at that price trades at with a partner: the price at which the partner ranks, if that meets the taker's, else
-- the taker's
abbrev pub line_price : Market → ℕ → Order → ℕ
line_price market price partner =
    if meets (side_of partner) (ranked_in market partner) price then ranked_in market partner else price

-- of an order that trades away from its ranked price
abbrev pub away_class : ℕ
away_class = 4

abbrev pub line_class : Market → ℕ → Order → ℕ
line_class market price partner =
    if line_price market price partner == ranked_in market partner then class_of partner.terms.kind else away_class

-- three keys in turn: the better price for the side, the lower class, the lower entry number
abbrev pub goes_first : Side → ℕ → ℕ → ℕ → ℕ → ℕ → ℕ → Bool
goes_first side price class number other_price other_class other_number =
    outranks side price other_price
    || (price == other_price && (nat_lt class other_class || (class == other_class && nat_lt number other_number)))

-- for a taker at that price, one partner trades before the other; a line price that ranks better on the partners' side is
-- better for the taker
abbrev pub ahead : Market → Side → ℕ → Order → Order → Bool
ahead market side price partner other =
    goes_first side (line_price market price partner) (line_class market price partner) partner.number
    (line_price market price other) (line_class market price other) other.number

-- the better of the best so far and one order more
abbrev pub better_of : Market → Side → ℕ → Option Order → Order → Option Order
better_of market side price None order = if is_partner market side price order then Some order else None
better_of market side price (Some best) order =
    if is_partner market side price order && ahead market side price order best then Some order else Some best

-- the next partner on the side for a taker at that price
unfoldable pub next_partner : Market → Side → ℕ → List Order → Option Order
next_partner market side price orders = fold (better_of market side price) None orders

-- the next partner for the taker at that price
abbrev pub partner_for : Order → ℕ → Market → Option Order
partner_for taker price market = next_partner market (opposite (side_of taker)) price market.orders
