-- The four calls. Each brings the clock to its time before it changes anything else.
use Rattle.std.specs.Prelude.{ℕ, ◌+◌, ◌-◌, Bool, true, false, not, ◌&&◌, List, [], ◌∷◌, ◌++◌, length, Some, None, Option, nat_le, if◌then◌else◌}
use Rattle.std.specs.Str.{bytes_eq}
use Rattle.terms.specs.declared.kind.Kind.{Kind}
use Rattle.terms.specs.declared.kind.Kind.TheVariants.{DisplayedLimit, HiddenLimit, DisplayedMdo, HiddenMdo, MidpointPeg}
use Rattle.terms.specs.declared.time_in_force.TimeInForce.{TimeInForce}
use Rattle.terms.specs.declared.time_in_force.TimeInForce.TheVariants.{Rest, ImmediateOrCancel}
use Rattle.terms.specs.Terms.{OrderTerms, is_ioc}
use Rattle.terms.specs.Identifiers.{lawful_identifier}
use Rattle.rules.specs.declared.refusal.Refusal.{Refusal}
use Rattle.rules.specs.declared.refusal.Refusal.TheVariants.{Identifier, Time, TapeShort, NameTaken, BookFull, EntriesSpent, NoSuchOrder}
use Rattle.rules.specs.Limits.{most_resting, most_entries, last_moment}
use Rattle.rules.specs.Market.{Order, Market, Book, with_orders, with_quote, resting, without, those}
use Rattle.rules.specs.Sweep.{sweep, sweep_each}
use Rattle.rules.specs.Clock.{at_time}
use Rattle.rules.specs.Answers.{Answer, entered, cancelled, quoted, ticked, refused}

-- time, then what the call hands over: identifier and terms, identifier, or bid and offer
pub data Call : Type 0 where
  entry : ℕ → List ℕ → OrderTerms → Call
  cancel : ℕ → List ℕ → Call
  quote : ℕ → ℕ → ℕ → Call
  tick : ℕ → Call

-- what a call answers, and the book after it
pub record Outcome : Type 0 where
  pub answer : Answer
  pub book : Book

abbrev pub refuse : Refusal → Book → Outcome
refuse why book = record { answer = refused why; book = book }

-- the resting order that an identifier names
unfoldable pub named : List ℕ → List Order → Option Order
named identifier [] = None
named identifier (order ∷ others) =
    if bytes_eq identifier order.identifier then Some order else named identifier others

-- Entry

abbrev pub new_order : List ℕ → OrderTerms → ℕ → Order
new_order identifier terms number = record { identifier = identifier; number = number; terms = terms; left = terms.shares }

abbrev pub joined : Order → Market → Market
joined order market = with_orders (market.orders ++ (order ∷ [])) market

-- the new order stands among the resting ones, and is swept
unfoldable pub swept_in : ℕ → Order → Market → Market
swept_in time order market = sweep time order (joined order market)

abbrev pub left_of : Option Order → ℕ
left_of None = 0
left_of (Some order) = order.left

-- after the sweep of the order with that entry number, entered with so many shares: what is left of it rests, or lapses if
-- it is IOC
abbrev pub rested : TimeInForce → ℕ → ℕ → ℕ → Market → Outcome
rested Rest time number shares market =
    let left = left_of (resting number market.orders) in
    record { answer = entered number (shares - left) 0; book = record { market = market; clock = time; entries = number } }
rested ImmediateOrCancel time number shares market =
    let left = left_of (resting number market.orders) in
    record {
      answer = entered number (shares - left) left;
      book = record { market = with_orders (without number market.orders) market; clock = time; entries = number };
    }

-- the entry has the next number, and its order is swept in
abbrev pub accepted : ℕ → List ℕ → OrderTerms → Book → Outcome
accepted time identifier terms book =
    let number = book.entries + 1 in
    rested terms.time_in_force time number terms.shares (swept_in time (new_order identifier terms number) book.market)

-- in a full book only an IOC order may be entered, since it never rests
abbrev pub no_place : OrderTerms → Market → Bool
no_place terms market = nat_le most_resting (length market.orders) && not (is_ioc terms.time_in_force)

abbrev pub enter_at : ℕ → List ℕ → OrderTerms → Book → Outcome
enter_at time identifier terms book =
    elim (named identifier book.market.orders) [
      | Some _ ↦ refuse NameTaken book
      | None ↦
          if no_place terms book.market then refuse BookFull book
          else if nat_le most_entries book.entries then refuse EntriesSpent book
          else accepted time identifier terms book
    ]

-- Cancel

abbrev pub cancel_at : ℕ → List ℕ → Book → Outcome
cancel_at time identifier book =
    elim (named identifier book.market.orders) [
      | None ↦ refuse NoSuchOrder book
      | Some order ↦ record {
        answer = cancelled order.left;
        book = record book { market = with_orders (without order.number book.market.orders) book.market; clock = time };
      }
    ]

-- Quote

-- kinds whose price follows the quote
abbrev pub pegged : Kind → Bool
pegged DisplayedLimit = false
pegged HiddenLimit = false
pegged DisplayedMdo = true
pegged HiddenMdo = true
pegged MidpointPeg = true

abbrev pub follows_quote : Order → Bool
follows_quote order = pegged order.terms.kind

-- the market at the new quote, with every order that follows it swept, lowest entry number first
abbrev pub requoted : ℕ → ℕ → ℕ → Market → Market
requoted time bid offer market = sweep_each time (those follows_quote market.orders) (with_quote bid offer market)

abbrev pub quote_at : ℕ → ℕ → ℕ → Book → Outcome
quote_at time bid offer book =
    record { answer = quoted; book = record book { market = requoted time bid offer book.market; clock = time } }

-- All four

-- what a call does once the clock is at its time
unfoldable pub done_at : Call → Book → Outcome
done_at (entry time identifier terms) book = enter_at time identifier terms book
done_at (cancel time identifier) book = cancel_at time identifier book
done_at (quote time bid offer) book = quote_at time bid offer book
done_at (tick time) book = record { answer = ticked; book = book }

abbrev pub time_of : Call → ℕ
time_of (entry time identifier terms) = time
time_of (cancel time identifier) = time
time_of (quote time bid offer) = time
time_of (tick time) = time

-- the call has no identifier, or a lawful one
abbrev pub names_lawfully : Call → Bool
names_lawfully (entry time identifier terms) = lawful_identifier identifier
names_lawfully (cancel time identifier) = lawful_identifier identifier
names_lawfully (quote time bid offer) = true
names_lawfully (tick time) = true

-- the time is not before the clock, and of the day
abbrev pub timely : Call → Book → Bool
timely next book = nat_le book.clock (time_of next) && nat_le (time_of next) last_moment

-- the next call, which finds so many free lines on the tape; three refusals come before the clock moves
unfoldable pub call : ℕ → Call → Book → Outcome
call free next book =
    if not (names_lawfully next) then refuse Identifier book
    else if not (timely next book) then refuse Time book
    else if not (nat_le (length book.market.orders) free) then refuse TapeShort book
    else done_at next (at_time (time_of next) book)
