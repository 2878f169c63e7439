-- The law of loads, in words. A load deals with the orders that a register lists one by one, in their order and all at one time:
-- it makes an entry of each whose ticket is lawful, and each whose ticket or entry is refused leaves a slip. It ends where the register ends, at a fault of
-- a field or of an order, or where a slip finds no place.
use Rattle.std.specs.Prelude.{◌≡◌, ℕ, ◌+◌, ◌⊎◌, List, [], ◌∷◌, ◌++◌, length, Some, None, Ok, Err, Option}
use Rattle.std.specs.List.{AllByRecursion as Every}
use Rattle.terms.specs.declared.refusal.Refusal.{Refusal as TicketRefusal}
use Rattle.terms.specs.Codes.{refusal_number as ticket_number}
use Rattle.terms.specs.Terms.{OrderTerms}
use Rattle.terms.specs.Judging.{ticket_from}
use Rattle.register.specs.Faults.{field_layer, order_layer, ticket_layer}
use Rattle.register.specs.Layout.{Listed}
use Rattle.register.specs.Reading.{place_in, read_next}
use Rattle.rules.specs.declared.refusal.Refusal.{Refusal}
use Rattle.rules.specs.Answers.{entered, refused}
use Rattle.rules.specs.Codes.{refusal_number}
use Rattle.rules.specs.Calls.{Call, entry, cancel, quote, tick}
use Rattle.rules.specs.Market.{Book as RuleBook}
use Rattle.book_register.specs.declared.load.LoadFault.{LoadFault}
use Rattle.book_register.specs.declared.load.LoadFault.TheVariants.{Register, SlipsFull, Book}
use Rattle.book_register.specs.declared.load.Slip.{Slip}
use Rattle.book_register.specs.Faults.{book_layer, load_fault_layer}
use Rattle.book_register.specs.Loads.{Ended, made}

-- an order, and the place of its first byte in the register
pub record OrderAt : Type 0 where
  pub place : ℕ
  pub order : Listed

-- from `rest` on, a register of `total` bytes lists these orders, one after another, and then `left` is left of it
abbrev pub Lists : ℕ → List ℕ → List OrderAt → List ℕ → Type 0
Lists total rest [] left = rest ≡ left
Lists total rest (at ∷ more) left =
    (after : List ℕ)
    × (read_next total rest ≡ Some (Ok (record { order = at.order; rest = after })))
    × (at.place ≡ place_in total rest)
    × Lists total after more left

-- the order's ticket is refused, and the slip says so
pub record TicketIsRefused (at : OrderAt) (slip : Slip) : Type 0 where
  pub why : TicketRefusal
  pub ticket : ticket_from at.order.draft ≡ Err why
  pub told : slip ≡ record { number = ticket_number why; layer = ticket_layer; place = at.place }

-- a load at a time, into a book whose tape has room for so many lines in all
module _ (time room : ℕ) where
  -- the order's ticket is lawful, and the call is its entry
  pub record IsEntry (at : OrderAt) (call : Call) : Type 0 where
    pub terms : OrderTerms
    pub ticket : ticket_from at.order.draft ≡ Ok terms
    pub same : call ≡ entry time at.order.identifier terms

  -- the entry is accepted: it is answered by its number, and the shares that traded and that lapsed
  pub record IsAccepted (call : Call) (before after : RuleBook) : Type 0 where
    pub number : ℕ
    pub traded : ℕ
    pub lapsed : ℕ
    pub answer : (made room call before).answer ≡ entered number traded lapsed
    pub book : after ≡ (made room call before).book

  -- the book refuses the entry of the order, and the slip says so
  pub record EntryIsRefused (at : OrderAt) (call : Call) (before : RuleBook) (slip : Slip) (after : RuleBook) : Type 0 where
    pub why : Refusal
    pub answer : (made room call before).answer ≡ refused why
    pub told : slip ≡ record { number = refusal_number why; layer = book_layer; place = at.place }
    pub book : after ≡ (made room call before).book

  -- orders dealt with one by one: with the entries made, the slips that are due, and the book before and after
  pub data OneByOne : List OrderAt → RuleBook → List Call → List Slip → RuleBook → Type 0 where
    no_order : (book : RuleBook) → OneByOne [] book [] [] book
    is_entered : (at : OrderAt) (more : List OrderAt) (before between after : RuleBook) (call : Call) (calls : List Call) (due : List Slip)
        → IsEntry at call
        → IsAccepted call before between
        → OneByOne more between calls due after
        → OneByOne (at ∷ more) before (call ∷ calls) due after
    ticket_is_refused : (at : OrderAt) (more : List OrderAt) (before after : RuleBook) (slip : Slip) (calls : List Call) (due : List Slip)
        → TicketIsRefused at slip
        → OneByOne more before calls due after
        → OneByOne (at ∷ more) before calls (slip ∷ due) after
    entry_is_refused : (at : OrderAt) (more : List OrderAt) (before between after : RuleBook) (call : Call) (slip : Slip) (calls : List Call) (due : List Slip)
        → IsEntry at call
        → EntryIsRefused at call before slip between
        → OneByOne more between calls due after
        → OneByOne (at ∷ more) before (call ∷ calls) (slip ∷ due) after

-- the last of the orders stands at the place
abbrev pub LastStandsAt : ℕ → List OrderAt → Type 0
LastStandsAt place orders = (before : List OrderAt) × (last : OrderAt) × (orders ≡ before ++ (last ∷ [])) × (last.place ≡ place)

-- Where a load ends, with these orders dealt with and `left` left to read: at the register's end or at a fault all slips that are due
-- are put. Where a slip finds none of the places free, it is that of the last order, and all before it are put.
abbrev pub EndsAt : ℕ → ℕ → List OrderAt → List ℕ → List Slip → List Slip → Option LoadFault → Type 0
EndsAt places total orders left due put None = (read_next total left ≡ None) × (put ≡ due)
EndsAt places total orders left due put (Some (Register fault)) = (read_next total left ≡ Some (Err fault)) × (put ≡ due)
EndsAt places total orders left due put (Some (SlipsFull place)) =
    (length put ≡ places) × ((slip : Slip) × (due ≡ put ++ (slip ∷ [])) × (slip.place ≡ place)) × LastStandsAt place orders
EndsAt places total orders left due put (Some (Book why place)) = ⊥

abbrev pub EntryAt : ℕ → Call → Type 0
EntryAt time (entry at id terms) = at ≡ time
EntryAt time (cancel at id) = ⊥
EntryAt time (quote at bid offer) = ⊥
EntryAt time (tick at) = ⊥

-- a slip tells of a ticket or of the book
abbrev pub OfOneOrder : Slip → Type 0
OfOneOrder slip = (slip.layer ≡ ticket_layer) ⊎ (slip.layer ≡ book_layer)

-- what stops a load is a fault of a field or of an order, and a slip that finds no place is told as one of an order
abbrev pub Stops : Option LoadFault → Type 0
Stops None = Unit {0}
Stops (Some fault) = (load_fault_layer fault ≡ field_layer) ⊎ (load_fault_layer fault ≡ order_layer)

-- a load of a register into a book, with so many places for slips
pub record LawfulLoad (time room places : ℕ) (register : List ℕ) (book : RuleBook) (ended : Ended) : Type 0 where
  pub orders : List OrderAt
  pub left : List ℕ
  pub due : List Slip
  pub listed : Lists (length register) register orders left
  pub one_by_one : OneByOne time room orders book ended.load.calls due ended.load.book
  pub ends : EndsAt places (length register) orders left due ended.load.slips ended.stop
  pub accounted : ended.load.entered + length due ≡ length orders
  pub at_time : Every (EntryAt time) ended.load.calls
  pub slips : Every OfOneOrder ended.load.slips
  pub stop : Stops ended.stop
