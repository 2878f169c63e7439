-- Laws of whole runs, of single calls and of any market, each in a sentence; more stand in WholeDay, Growth, Finished and Trades. A run is any list of calls on a new book, and its tape has
-- room for `room` lines.
use Rattle.std.specs.Prelude.{◌≡◌, ℕ, ◌+◌, ◌*◌, ◌<◌, ◌≤◌, Bool, true, false, ◌↔◌, List, [], ◌∷◌, length, Some, None, Option}
use Rattle.std.specs.List.{ContainsAt as Has, AllByRecursion as Every}
use Rattle.terms.specs.declared.side.Side.{Side}
use Rattle.terms.specs.Terms.{is_mdo}
use Rattle.tape.specs.declared.line.Line.{Line}
use Rattle.rules.specs.declared.refusal.Refusal.{Refusal}
use Rattle.rules.specs.declared.refusal.Refusal.TheVariants as refusal
use Rattle.rules.specs.Limits.{protection_period, most_resting, most_entries, fewest_left}
use Rattle.rules.specs.Market.{Order, Market, Book, side_of, ranked_in, reach_in}
use Rattle.rules.specs.Priority.{is_partner, ahead, next_partner}
use Rattle.rules.specs.Sweep.{side_mark}
use Rattle.rules.specs.Clock.{settle}
use Rattle.rules.specs.Answers.{Answer, entered, cancelled, quoted, ticked, refused}
use Rattle.rules.specs.Calls.{Call, tick, time_of, call}
use Rattle.rules.specs.Questions.{Ranking, ranking_of, Standing, Answered, asked, at_place, Why, no_mdo, at_limit, at_midpoint, protected, discretion, why}
use Rattle.rules.specs.Runs.{opened, run}
use Rattle.rules.specs.WholeDay.{AlikeButForTicks, DiscretionExplained, Uncrossed}

-- The law of whole days, in its parts

-- of any two runs on one quote
abbrev pub TicksChangeOnlyTheClock : Type 0
TicksChangeOnlyTheClock =
    (bid offer room other_room : ℕ) (calls other_calls : List Call)
    → AlikeButForTicks calls (run room calls (opened bid offer)) other_calls (run other_room other_calls (opened bid offer))

-- after every run
abbrev pub TapeExplainsDiscretion : Type 0
TapeExplainsDiscretion =
    (bid offer room : ℕ) (calls : List Call) → DiscretionExplained (run room calls (opened bid offer)).book

-- after every run
abbrev pub NeverCrossed : Type 0
NeverCrossed = (bid offer room : ℕ) (calls : List Call) → Uncrossed (run room calls (opened bid offer)).book.market

-- Reasons

-- what a reason says of an order
abbrev pub Reason : Book → Order → Why → Type 0
Reason book order no_mdo = is_mdo order.terms.kind ≡ false
Reason book order at_limit = ranked_in book.market order ≡ 2 * order.terms.limit
Reason book order at_midpoint = ranked_in book.market order ≡ book.market.bid + book.market.offer
Reason book order (protected place until) =
    (order.terms.qdp ≡ true)
    × ((line : Line) × (at_place place book.market.tape ≡ Some line) × (line.mark ≡ side_mark (side_of order))
    × (until ≡ line.time + protection_period) × (book.clock < until))
Reason book order discretion = ranked_in book.market order ≡ reach_in book.market order → ⊥

-- the reason that is told of each resting order holds
abbrev pub Reasoned : Book → Type 0
Reasoned book = Every (λ order. Reason book order (why book.market order)) book.market.orders

-- so it is after every run
abbrev pub ReasonsHold : Type 0
ReasonsHold = (bid offer room : ℕ) (calls : List Call) → Reasoned (run room calls (opened bid offer)).book

-- The best partner

-- the chosen order is a partner and no partner goes ahead of it; where none is chosen there is none
abbrev pub Chosen : Market → Side → ℕ → List Order → Option Order → Type 0
Chosen market side price orders None = Every (λ order. is_partner market side price order ≡ false) orders
Chosen market side price orders (Some partner) =
    Has orders partner × (is_partner market side price partner ≡ true)
    × Every (λ order. is_partner market side price order ≡ true → ahead market side price order partner ≡ false) orders

abbrev pub BestPartner : Type 0
BestPartner =
    (market : Market) (side : Side) (price : ℕ)
    → Chosen market side price market.orders (next_partner market side price market.orders)

-- Settling

-- settling to two times, one after the other, is settling to the later of them
abbrev pub SettlesAtOnce : ℕ → ℕ → ℕ → Type 0
SettlesAtOnce first second later = (market : Market) → settle second (settle first market) ≡ settle later market

-- Refusals

-- whether a refusal comes once the clock is at the call's time; before that everything is as it was
abbrev pub after_clock : Refusal → Bool
after_clock refusal.Identifier = false
after_clock refusal.Time = false
after_clock refusal.TapeShort = false
after_clock refusal.NameTaken = true
after_clock refusal.BookFull = true
after_clock refusal.EntriesSpent = true
after_clock refusal.NoSuchOrder = true

-- the book as it was, or as a tick at the call's time leaves it
abbrev pub left_by : Bool → ℕ → Call → Book → Book
left_by false free next book = book
left_by true free next book = (call free (tick (time_of next)) book).book

abbrev pub RefusalLeaves : Refusal → Bool → Type 0
RefusalLeaves why clock_moves =
    (free : ℕ) (next : Call) (book : Book)
    → (call free next book).answer ≡ refused why → (call free next book).book ≡ left_by clock_moves free next book

-- Entry numbers

-- an accepted entry has the next number, and is counted; no other answer changes the count
abbrev pub Counted : Answer → ℕ → ℕ → Type 0
Counted (entered number traded lapsed) before after = (number ≡ before + 1) × (after ≡ number)
Counted (cancelled left) before after = after ≡ before
Counted quoted before after = after ≡ before
Counted ticked before after = after ≡ before
Counted (refused why) before after = after ≡ before

abbrev pub EntriesCounted : Type 0
EntriesCounted =
    (free : ℕ) (next : Call) (book : Book)
    → Counted (call free next book).answer book.entries (call free next book).book.entries

-- the entry numbers among the answers are a first, the next, and on
abbrev pub NumberedFrom : ℕ → List Answer → Type 0
NumberedFrom first [] = Unit {0}
NumberedFrom first (entered number traded lapsed ∷ later) = (number ≡ first) × NumberedFrom (first + 1) later
NumberedFrom first (cancelled left ∷ later) = NumberedFrom first later
NumberedFrom first (quoted ∷ later) = NumberedFrom first later
NumberedFrom first (ticked ∷ later) = NumberedFrom first later
NumberedFrom first (refused why ∷ later) = NumberedFrom first later

-- in every run, the accepted entries have the numbers from 1 on, without a gap
abbrev pub NumberedInTurn : Type 0
NumberedInTurn = (bid offer room : ℕ) (calls : List Call) → NumberedFrom 1 (run room calls (opened bid offer)).answers

-- each entry number is above the one before it, and the first above `low`
abbrev pub Ascending : ℕ → List Order → Type 0
Ascending low [] = Unit {0}
Ascending low (order ∷ others) = (low < order.number) × Ascending order.number others

-- after every run, the resting orders stand by ascending entry number, from 1 to the count of entries
abbrev pub NumbersAscend : Type 0
NumbersAscend =
    (bid offer room : ℕ) (calls : List Call)
    → let book : Book = (run room calls (opened bid offer)).book in
    Ascending 0 book.market.orders × Every (λ order. order.number ≤ book.entries) book.market.orders
    × (book.entries ≤ most_entries)

-- How many rest, and with how many shares

-- after every run, no more orders rest than have a place
abbrev pub OrdersWithinPlaces : Type 0
OrdersWithinPlaces =
    (bid offer room : ℕ) (calls : List Call)
    → length (run room calls (opened bid offer)).book.market.orders ≤ most_resting

-- after every run, no resting order has more shares left than its ticket says, and each has at least one left whose
-- ticket says at least one, as every lawful ticket does
abbrev pub SharesRemain : Type 0
SharesRemain =
    (bid offer room : ℕ) (calls : List Call)
    → Every (λ order. (order.left ≤ order.terms.shares) × (fewest_left ≤ order.terms.shares → fewest_left ≤ order.left))
    (run room calls (opened bid offer)).book.market.orders

-- The ranked question

-- after every run, each side has a ranking, and no other one
abbrev pub OneRanking : Type 0
OneRanking =
    (bid offer room : ℕ) (calls : List Call) (side : Side)
    → let market : Market = (run room calls (opened bid offer)).book.market in
    Ranking market side (ranking_of market side market.orders)
    × ((orders : List Order) → Ranking market side orders → orders ≡ ranking_of market side market.orders)

-- after every run, the ranked question has exactly one answer
abbrev pub OneAnswer : Type 0
OneAnswer =
    (bid offer room : ℕ) (calls : List Call) (code place : ℕ) (answer : Option Standing)
    → let market : Market = (run room calls (opened bid offer)).book.market in
    Answered market code place answer ↔ (answer ≡ asked market code place)
