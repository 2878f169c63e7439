-- The two prices of an order, in half-cents: the ranked price, at which it stands in the book, and the reach, the
-- price up to which it trades. Bid and offer in cents add up to the midpoint in half-cents.
use Rattle.std.specs.Prelude.{ℕ, suc, ◌+◌, ◌-◌, ◌*◌, min, max, Bool, ◌&&◌, ℤ, pos, negsuc, if◌then◌else◌}
use Rattle.terms.specs.declared.side.Side.{Side}
use Rattle.terms.specs.declared.side.Side.TheVariants.{Buy, Sell}
use Rattle.terms.specs.declared.kind.Kind.{Kind}
use Rattle.terms.specs.declared.kind.Kind.TheVariants.{DisplayedLimit, HiddenLimit, DisplayedMdo, HiddenMdo, MidpointPeg}
use Rattle.terms.specs.Limits.{top_price}
use Rattle.terms.specs.Sides.{tamer}
use Rattle.terms.specs.Terms.{OrderTerms}

-- a price in cents moved by an offset; it stops at 0
abbrev pub moved : ℕ → ℤ → ℕ
moved cents (pos up) = cents + up
moved cents (negsuc down) = cents - suc down

-- the near quote moved by the offset, in half-cents: at least 2 for a buy, at most twice the top price for a sell
abbrev pub peg : Side → ℕ → ℕ → ℤ → ℕ
peg Buy bid offer offset = max 2 (2 * moved bid offset)
peg Sell bid offer offset = min (2 * top_price) (2 * moved offer offset)

-- the limit, or the midpoint where that is tamer
abbrev pub limit_or_midpoint : OrderTerms → ℕ → ℕ → ℕ
limit_or_midpoint terms bid offer = tamer terms.side (2 * terms.limit) (bid + offer)

abbrev pub ranked_as : Kind → OrderTerms → ℕ → ℕ → ℕ
ranked_as DisplayedLimit terms bid offer = 2 * terms.limit
ranked_as HiddenLimit terms bid offer = 2 * terms.limit
ranked_as DisplayedMdo terms bid offer = tamer terms.side (peg terms.side bid offer terms.offset) (limit_or_midpoint terms bid offer)
ranked_as HiddenMdo terms bid offer = tamer terms.side (peg terms.side bid offer terms.offset) (limit_or_midpoint terms bid offer)
ranked_as MidpointPeg terms bid offer = limit_or_midpoint terms bid offer

abbrev pub ranked : OrderTerms → ℕ → ℕ → ℕ
ranked terms bid offer = ranked_as terms.kind terms bid offer

abbrev pub reach_with_discretion : Kind → OrderTerms → ℕ → ℕ → ℕ
reach_with_discretion DisplayedLimit terms bid offer = ranked terms bid offer
reach_with_discretion HiddenLimit terms bid offer = ranked terms bid offer
reach_with_discretion DisplayedMdo terms bid offer = limit_or_midpoint terms bid offer
reach_with_discretion HiddenMdo terms bid offer = limit_or_midpoint terms bid offer
reach_with_discretion MidpointPeg terms bid offer = ranked terms bid offer

-- no discretion on an order with QDP, as long as its side's protection period runs; nothing else takes it away
abbrev pub reach : OrderTerms → Bool → ℕ → ℕ → ℕ
reach terms period_runs bid offer =
    if terms.qdp && period_runs then ranked terms bid offer else reach_with_discretion terms.kind terms bid offer
