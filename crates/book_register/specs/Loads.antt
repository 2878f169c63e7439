-- What a load makes of a register, order by order: the entries, the slips, and how it ends.
use Rattle.std.specs.Prelude.{ℕ, zero, suc, ◌+◌, ◌-◌, Bool, true, false, List, [], ◌∷◌, ◌++◌, length, Some, None, Ok, Err, Option, Result, nat_lt}
use Rattle.terms.specs.Terms.{OrderTerms}
use Rattle.register.specs.declared.fault.Fault.{Fault}
use Rattle.register.specs.Faults.{listed_ticket}
use Rattle.register.specs.Layout.{Listed}
use Rattle.register.specs.Reading.{Cursor, place_in, read_next}
use Rattle.rules.specs.Answers.{Answer, entered, cancelled, quoted, ticked, refused}
use Rattle.rules.specs.Calls.{Call, Outcome, call, entry}
use Rattle.rules.specs.Market.{Book as RuleBook}
use Rattle.book_register.specs.declared.load.LoadFault.{LoadFault}
use Rattle.book_register.specs.declared.load.LoadFault.TheVariants.{Register, SlipsFull, Book}
use Rattle.book_register.specs.declared.load.Slip.{Slip}
use Rattle.book_register.specs.declared.load.Loaded.{Loaded}
use Rattle.book_register.specs.Faults.{slip_of}

-- how far a load has come: the entries made, in their order, how many of them were accepted, the slips put, and the book
pub record Load : Type 0 where
  pub calls : List Call
  pub entered : ℕ
  pub slips : List Slip
  pub book : RuleBook

-- a load that is over, and the fault that stopped it, if one did
pub record Ended : Type 0 where
  pub load : Load
  pub stop : Option LoadFault

-- what one order makes of a book: the entry, if its ticket is lawful, its fault, if it has one, and the book after it
pub record Attempt : Type 0 where
  pub calls : List Call
  pub fault : Option LoadFault
  pub book : RuleBook

-- what is wrong with the order at a place whose entry is answered so
abbrev pub entry_fault : ℕ → Answer → Option LoadFault
entry_fault place (entered number traded lapsed) = None
entry_fault place (cancelled left) = None
entry_fault place quoted = None
entry_fault place ticked = None
entry_fault place (refused why) = Some (Book why place)

abbrev pub with_attempt : Attempt → Load → Load
with_attempt attempt load = record load { calls = load.calls ++ attempt.calls; book = attempt.book }

abbrev pub with_one_entered : Load → Load
with_one_entered load = record load { entered = load.entered + 1 }

abbrev pub with_slip : LoadFault → Load → Load
with_slip fault load = record load { slips = load.slips ++ (slip_of fault ∷ []) }

abbrev pub stopped_if : Option LoadFault → Load → Ended
stopped_if stop load = record { load = load; stop = stop }

-- a load that is over, or else goes on
abbrev pub go_on : Option LoadFault → Load → (Load → Ended) → Ended
go_on None load more = more load
go_on (Some fault) load more = stopped_if (Some fault) load

-- a call is made, on a tape that has room for so many lines in all
abbrev pub made : ℕ → Call → RuleBook → Outcome
made room one book = call (room - length book.market.tape) one book

-- a slip for a fault of the order at a place; without a free place for it the load stops
abbrev pub slip_put : ℕ → LoadFault → Load → Bool → Ended
slip_put place fault load true = stopped_if None (with_slip fault load)
slip_put place fault load false = stopped_if (Some (SlipsFull place)) load

-- of an order at a place, with so many places for slips in all: it counts as entered, or a slip is due for its fault
abbrev pub accounted : ℕ → ℕ → Option LoadFault → Load → Ended
accounted places place None load = stopped_if None (with_one_entered load)
accounted places place (Some fault) load = slip_put place fault load (nat_lt (length load.slips) places)

module _ (time room : ℕ) where
  abbrev pub attempt_with : ℕ → Listed → RuleBook → Result OrderTerms Fault → Attempt
  attempt_with place order book (Err fault) = record { calls = []; fault = Some (Register fault); book = book }
  attempt_with place order book (Ok terms) =
      record {
        calls = entry time order.identifier terms ∷ [];
        fault = entry_fault place (made room (entry time order.identifier terms) book).answer;
        book = (made room (entry time order.identifier terms) book).book;
      }

  -- the order at a place is entered at the time, if its ticket is lawful
  abbrev pub attempt : ℕ → Listed → RuleBook → Attempt
  attempt place order book = attempt_with place order book (listed_ticket place order.draft)

  module _ (places : ℕ) where
    abbrev pub after_order : ℕ → Listed → Load → Ended
    after_order place order load =
        accounted places place (attempt place order load.book).fault (with_attempt (attempt place order load.book) load)

    -- what comes next is loaded, and then the rest of the register by `more`
    abbrev pub next_loaded : ℕ → Option (Result Cursor Fault) → Load → (List ℕ → Load → Ended) → Ended
    next_loaded place None load more = stopped_if None load
    next_loaded place (Some (Err fault)) load more = stopped_if (Some (Register fault)) load
    next_loaded place (Some (Ok next)) load more =
        go_on (after_order place next.order load).stop (after_order place next.order load).load (more next.rest)

    -- the load goes on from the rest of a register of so many bytes; each turn takes one order
    unfoldable pub load_on : ℕ → ℕ → List ℕ → Load → Ended
    load_on zero total rest load = stopped_if None load
    load_on (suc turns) total rest load =
        next_loaded (place_in total rest) (read_next total rest) load (load_on turns total)

    -- The load of a register, all at one time, into a book whose tape has room for so many lines in all, with so many free
    -- places for slips. A register has no more orders than bytes.
    abbrev pub load_of : List ℕ → RuleBook → Ended
    load_of register book =
        load_on (length register) (length register) register (record { calls = []; entered = 0; slips = []; book = book })

-- what a load tells: how many orders it entered and how many slips it put, or the fault that stopped it
abbrev pub load_answer : Option LoadFault → Load → Result Loaded LoadFault
load_answer None load = Ok (record { entered = load.entered; slips = length load.slips })
load_answer (Some fault) load = Err fault
