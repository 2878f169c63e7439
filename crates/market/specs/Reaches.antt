-- How far the orders of a side reach at most. The table keeps such a bound for each side: a taker whose price not even the bound
-- meets has no partner, and no row need be looked at. It is a bound and not the farthest price itself, since a row that goes leaves
-- it as it is until the next quote.
use Rattle.std.specs.Prelude.{◌≡◌, ℕ, Bool, true, false, ◌&&◌, min, max, All, List}
use Rattle.terms.specs.declared.side.Side.{Side}
use Rattle.terms.specs.declared.side.Side.TheVariants.{Buy, Sell}
use Rattle.terms.specs.declared.quote.Quote.{Quote}
use Rattle.terms.specs.declared.per_side.PerSide.{PerSide}
use Rattle.terms.specs.PerSide.{of_side}
use Rattle.terms.specs.Sides.{meets}
use Rattle.terms.specs.Prices.{ranked, reach}
use Rattle.terms.specs.Made.{terms_of}
use Rattle.market.specs.declared.table.Row.{Row}

-- the price at which the row's order stands
abbrev pub ranked_at : Quote → Row → ℕ
ranked_at quote row = ranked (terms_of row.terms) quote.bid quote.offer

-- its reach with its discretion, while no protection period takes that away
abbrev pub far_at : Quote → Row → ℕ
far_at quote row = reach (terms_of row.terms) false quote.bid quote.offer

-- the row's order reaches no farther than its side's bound, with its discretion or without
abbrev pub within : Quote → PerSide ℕ → Row → Bool
within quote farthest row =
    let bound = of_side row.terms.side farthest in
    meets row.terms.side bound (ranked_at quote row) && meets row.terms.side bound (far_at quote row)

-- no row's order reaches farther than its side's bound
abbrev pub AllWithin : Quote → PerSide ℕ → List Row → Type 0
AllWithin quote farthest rows = All (λ row. within quote farthest row ≡ true) rows

-- the bounds, with the two prices of one order of the side more
abbrev pub widened_by : Side → ℕ → ℕ → PerSide ℕ → PerSide ℕ
widened_by Buy price other farthest = record farthest { buy = max (max farthest.buy price) other }
widened_by Sell price other farthest = record farthest { sell = min (min farthest.sell price) other }
