-- How a sweep and a settling end: nothing is left to do.
use Rattle.std.specs.Prelude.{◌≡◌, ℕ, ◌⊎◌, List, None}
use Rattle.rules.specs.Market.{Order, Market, Book, resting}
use Rattle.rules.specs.Priority.{partner_for}
use Rattle.rules.specs.Clock.{due}
use Rattle.rules.specs.Calls.{Call}
use Rattle.rules.specs.Runs.{opened, run}

-- the taker is filled, so that no order with its entry number rests, or it is alone: at the price it has no partner. The price is
-- the taker's reach when its sweep began
abbrev pub FilledOrAlone : Order → ℕ → Market → Type 0
FilledOrAlone taker price market = (resting taker.number market.orders ≡ None) ⊎ (partner_for taker price market ≡ None)

-- every period that has come to its end has ended: none is due at the time
abbrev pub NothingDueAt : ℕ → Market → Type 0
NothingDueAt time market = due time market ≡ None

-- so it is at the clock, after every run
abbrev pub NothingDue : Type 0
NothingDue =
    (bid offer room : ℕ) (calls : List Call)
    → let book : Book = (run room calls (opened bid offer)).book in
    NothingDueAt book.clock book.market
