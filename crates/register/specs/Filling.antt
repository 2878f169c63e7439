-- A buffer that is filled from a mark on: what fits whole, and what the buffer then holds, byte for byte. `free` is how many bytes
-- there are from the mark on.
use Rattle.std.specs.Prelude.{ℕ, ◌+◌, ◌-◌, Bool, true, if◌then◌else◌, ◌&&◌, List, [], ◌∷◌, ◌++◌, length, take, drop, nat_le}
use Rattle.register.specs.Layout.{Listed, longest_value}
use Rattle.register.specs.Orders.{Tagged, tagged_bytes, order_fields, order_bytes, register_bytes}

-- a buffer, and how far it is written
pub record Page : Type 0 where
  pub bytes : List ℕ
  pub mark : ℕ

-- nothing is written yet
abbrev pub fresh : List ℕ → Page
fresh bytes = record { bytes = bytes; mark = 0 }

abbrev pub room : Page → ℕ
room page = length page.bytes - page.mark

-- some bytes over those from a place on, and no other byte
abbrev pub put_at : List ℕ → ℕ → List ℕ → List ℕ
put_at before place bytes = take place before ++ (bytes ++ drop (place + length bytes) before)

-- a field fits where two bytes tell its length, and all of it finds room
abbrev pub fits : ℕ → Tagged → Bool
fits free field = nat_le (length field.value) longest_value && nat_le (length (tagged_bytes field)) free

abbrev pub all_fit : ℕ → List Tagged → Bool
all_fit free [] = true
all_fit free (field ∷ fields) = fits free field && all_fit (free - length (tagged_bytes field)) fields

-- the fields that fit whole, up to the first that does not
abbrev pub fitted : ℕ → List Tagged → List ℕ
fitted free [] = []
fitted free (field ∷ fields) =
    if fits free field then tagged_bytes field ++ fitted (free - length (tagged_bytes field)) fields else []

-- a field put at the mark, if it fits
abbrev pub with_field : Page → Tagged → Page
with_field page field =
    if fits (room page) field
    then record { bytes = put_at page.bytes page.mark (tagged_bytes field); mark = page.mark + length (tagged_bytes field) }
    else page

abbrev pub order_fits : ℕ → Listed → Bool
order_fits free order = all_fit free (order_fields order)

abbrev pub fitted_fields : ℕ → Listed → List ℕ
fitted_fields free order = fitted free (order_fields order)

-- An order put at the mark. Where it does not fit, its fields that do are in the buffer, and the mark is where it was.
abbrev pub with_order : Page → Listed → Page
with_order page order =
    if order_fits (room page) order
    then record { bytes = put_at page.bytes page.mark (order_bytes order); mark = page.mark + length (order_bytes order) }
    else record page { bytes = put_at page.bytes page.mark (fitted_fields (room page) order) }

-- some orders, one after another
abbrev pub orders_fit : ℕ → List Listed → Bool
orders_fit free [] = true
orders_fit free (order ∷ orders) = order_fits free order && orders_fit (free - length (order_bytes order)) orders

-- those that fit whole, up to the first that does not
abbrev pub whole_orders : ℕ → List Listed → List Listed
whole_orders free [] = []
whole_orders free (order ∷ orders) =
    if order_fits free order then order ∷ whole_orders (free - length (order_bytes order)) orders else []

-- the fields that fit of that one; nothing where every order fits
abbrev pub half_order : ℕ → List Listed → List ℕ
half_order free [] = []
half_order free (order ∷ orders) =
    if order_fits free order
    then half_order (free - length (order_bytes order)) orders
    else fitted_fields free order

-- Orders put from the mark on: the whole ones up to the new mark, then half an order if one does not fit, then what was there.
abbrev pub with_orders : Page → List Listed → Page
with_orders page orders =
    record {
      bytes = put_at page.bytes page.mark (register_bytes (whole_orders (room page) orders) ++ half_order (room page) orders);
      mark = page.mark + length (register_bytes (whole_orders (room page) orders));
    }
