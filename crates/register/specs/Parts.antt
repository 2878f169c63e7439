-- What the code's structs hold, as plain lists and numbers.
use Rattle.std.specs.Prelude.{◌≡◌, ℕ, ◌+◌, List, [], length, ℤ, Some, None, Ok, Err, Option, Result}
use Rattle.std.specs.Borrow.{Bor}
use Rattle.terms.specs.declared.ticket.Draft.{Draft}
use Rattle.register.specs.declared.field.Field.{Field}
use Rattle.register.specs.declared.fault.Fault.{Fault}
use Rattle.register.specs.declared.reader.Listed.{Listed as ListedOrder}
use Rattle.register.specs.Layout.{Listed, head_size, with_draft, with_offset}
use Rattle.register.specs.Reading.{Taken, Cursor, place_in}
use Rattle.register.specs.Tails.{StandsAt}

abbrev pub field_of : Field → Taken
field_of field = record { tag = field.tag; value = field.value.now; rest = field.rest.now }

abbrev pub taken_of : Option Field → Option Taken
taken_of None = None
taken_of (Some field) = Some (field_of field)

-- the value of a field with this tag, and the bytes after it
abbrev pub tagged_of : ℕ → Result (Bor (List ℕ)) Fault → List ℕ → Result Taken Fault
tagged_of tag (Ok value) rest = Ok (record { tag = tag; value = value.now; rest = rest })
tagged_of tag (Err fault) rest = Err fault

-- something that was read, and the bytes after it
abbrev pub read_of : {B : Type 0} → Result B Fault → List ℕ → Result (B × List ℕ) Fault
read_of (Ok value) rest = Ok (value, rest)
read_of (Err fault) rest = Err fault

-- an order so far with what was read into it, and the bytes after that: a draft, an offset, or nothing, past a field that is checked
abbrev pub order_with_draft : Listed → Result Draft Fault → List ℕ → Result Cursor Fault
order_with_draft order (Ok draft) rest = Ok (record { order = with_draft draft order; rest = rest })
order_with_draft order (Err fault) rest = Err fault

abbrev pub order_with_offset : Listed → Result ℤ Fault → List ℕ → Result Cursor Fault
order_with_offset order (Ok offset) rest =
    Ok (record { order = with_draft (with_offset offset order.draft) order; rest = rest })
order_with_offset order (Err fault) rest = Err fault

abbrev pub order_past : Listed → Result (Unit {0}) Fault → List ℕ → Result Cursor Fault
order_past order (Ok done) rest = Ok (record { order = order; rest = rest })
order_past order (Err fault) rest = Err fault

abbrev pub listed_of : ListedOrder → Listed
listed_of order = record { identifier = order.identifier.bytes.now; draft = order.draft }

abbrev pub order_read : Result (Bor (List ℕ) × Draft × Bor (List ℕ)) Fault → Result Cursor Fault
order_read (Ok read) = Ok (record { order = record { identifier = read.0.now; draft = read.1 }; rest = read.2.now })
order_read (Err fault) = Err fault

-- what came next, with the bytes left after it
abbrev pub next_read : Option (Result ListedOrder Fault) → List ℕ → Option (Result Cursor Fault)
next_read None left = None
next_read (Some (Ok order)) left = Some (Ok (record { order = listed_of order; rest = left }))
next_read (Some (Err fault)) left = Some (Err fault)

-- The place of an order is that of its first byte; the identifier's bytes are the register's own, at the place told.
-- At the end, and after a fault, nothing is left.
abbrev pub Placed : List ℕ → List ℕ → Option (Result ListedOrder Fault) → List ℕ → Type 0
Placed register rest None left = left ≡ []
Placed register rest (Some (Err fault)) left = left ≡ []
Placed register rest (Some (Ok order)) left =
    (order.place ≡ place_in (length register) rest)
    × (order.identifier.place ≡ order.place + head_size)
    × StandsAt register order.identifier.place order.identifier.bytes.now
