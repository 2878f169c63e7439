-- The ranked question one order at a time: which order of the side is ranked next after one that is told.
use Rattle.std.specs.Prelude.{◌≡◌, Bool, true, false, ◌&&◌, List, Some, None, Option}
use Rattle.std.specs.List.{ContainsAt as Has, AllByRecursion as Every}
use Rattle.terms.specs.declared.side.Side.{Side}
use Rattle.terms.specs.Sides.{same_side}
use Rattle.rules.specs.Market.{Order, Market, side_of}
use Rattle.rules.specs.Questions.{ranks_before}

-- the order is of the side and ranked after the one that is told; where none is told, every order of the side comes after it
abbrev pub comes_after : Market → Side → Option Order → Order → Bool
comes_after market side None order = same_side (side_of order) side
comes_after market side (Some told) order = same_side (side_of order) side && ranks_before market side told order

-- the next order comes after the one that is told, and no other that does is ranked before it; where none is next, none comes
-- after it
abbrev pub NextRanked : Market → Side → Option Order → List Order → Option Order → Type 0
NextRanked market side told orders None = Every (λ other. comes_after market side told other ≡ false) orders
NextRanked market side told orders (Some next) =
    Has orders next
    × (comes_after market side told next ≡ true)
    × Every (λ other. comes_after market side told other ≡ true → ranks_before market side other next ≡ false) orders
