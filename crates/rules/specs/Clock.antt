-- The clock: a protection period ends at its own end, whenever it is that the book is next told the time.
use Rattle.std.specs.Prelude.{ℕ, zero, suc, ◌+◌, Bool, ◌&&◌, length, Some, None, Option, nat_le, if◌then◌else◌}
use Rattle.terms.specs.declared.side.Side.{Side}
use Rattle.terms.specs.declared.side.Side.TheVariants.{Buy, Sell}
use Rattle.terms.specs.Sides.{same_side}
use Rattle.rules.specs.Market.{Order, Market, Book, side_of, with_end, those}
use Rattle.rules.specs.Sweep.{sweep_each}

-- the period that ends first, with its side; the buy side's where both end together
abbrev pub earliest : Option ℕ → Option ℕ → Option (Side × ℕ)
earliest None None = None
earliest None (Some sell_end) = Some (Sell, sell_end)
earliest (Some buy_end) None = Some (Buy, buy_end)
earliest (Some buy_end) (Some sell_end) = if nat_le buy_end sell_end then Some (Buy, buy_end) else Some (Sell, sell_end)

abbrev pub not_after : ℕ → Option (Side × ℕ) → Option (Side × ℕ)
not_after time None = None
not_after time (Some period) = if nat_le period.1 time then Some period else None

-- the period that ends first, if its end has come by the time
abbrev pub due : ℕ → Market → Option (Side × ℕ)
due time market = not_after time (earliest market.buy_end market.sell_end)

-- an order of the side that a protection period restrains
abbrev pub protected_on : Side → Order → Bool
protected_on side order = order.terms.qdp && same_side (side_of order) side

-- the side's period ends, and its QDP orders are swept at that time, lowest entry number first
unfoldable pub end_period : Side × ℕ → Market → Market
end_period period market =
    sweep_each period.1 (those (protected_on period.0) market.orders) (with_end period.0 None market)

-- the next due period ends, while there is one
unfoldable pub end_periods : ℕ → ℕ → Market → Market
end_periods zero time market = market
end_periods (suc turns) time market =
    elim (due time market) [ None ↦ market | Some period ↦ end_periods turns time (end_period period market) ]

-- every period that is due by the time has ended. A period that begins here ends an order, so this many turns are enough
unfoldable pub settle : ℕ → Market → Market
settle time market = end_periods (length market.orders + 2) time market

-- the book with its clock brought to the time
unfoldable pub at_time : ℕ → Book → Book
at_time time book = record book { market = settle time book.market; clock = time }
