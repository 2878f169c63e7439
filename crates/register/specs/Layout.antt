-- The layout of a register: the fields of an order, each with what it means in both directions.
use Rattle.std.specs.Prelude.{ℕ, Bool, true, false, not, if◌then◌else◌, ◌&&◌, List, [], ◌∷◌, ◌++◌, length, take, replicate, ℤ, pos, Some, None, Option, ◌==◌, slice_index}
use Rattle.std.specs.Str.{bytes_eq}
use Rattle.terms.specs.declared.ticket.Draft.{Draft}
use Rattle.terms.specs.Judging.{is_zero}
use Rattle.register.specs.Numbers.{number_from, four_bytes, two_bytes, signed_from, signed_bytes}

-- an order as a register lists it: its identifier, and its ticket in numbers
pub record Listed : Type 0 where
  pub identifier : List ℕ
  pub draft : Draft

-- One row of the layout. `fits` says whether a value may stand in the field, given the fields before it;
-- `put` reads the value into the order, and `get` is the value that is written, or nothing where none is.
pub record Field : Type 0 where
  pub tag : ℕ
  pub may_be_missing : Bool
  pub fits : Listed → List ℕ → Bool
  pub put : List ℕ → Listed → Listed
  pub get : Listed → Option (List ℕ)

-- a field in bytes: its tag, the length of its value in two bytes, its value
abbrev pub field_bytes : ℕ → List ℕ → List ℕ
field_bytes tag value = tag ∷ (two_bytes (length value) ++ value)

-- how many bytes stand before a value
abbrev pub head_size : ℕ
head_size = 3

-- the greatest length that two bytes tell
abbrev pub longest_value : ℕ
longest_value = 65535

-- an order with nothing read into it yet
abbrev pub blank : Listed
blank =
    record {
      identifier = [];
      draft = record { side = 0; kind = 0; time_in_force = 0; qdp = 0; shares = 0; limit = 0; offset = pos 0 };
    }

-- an order of which the identifier is read, and nothing else
abbrev pub named : List ℕ → Listed
named identifier = record blank { identifier = identifier }

abbrev pub with_draft : Draft → Listed → Listed
with_draft draft order = record order { draft = draft }

-- a field that is always there, with a value of four bytes, which `from` makes something of
abbrev pub four_field : {B : Type 0} → ℕ → (List ℕ → B) → (B → Draft → Draft) → (Draft → List ℕ) → Field
four_field tag from put get =
    record {
      tag = tag;
      may_be_missing = false;
      fits = λ order value. (length value == 4);
      put = λ value order. with_draft (put (from value) order.draft) order;
      get = λ order. Some (get order.draft);
    }

abbrev pub identifier_field : Field
identifier_field =
    record {
      tag = 1;
      may_be_missing = false;
      fits = λ order value. true;
      put = λ value order. record order { identifier = value };
      get = λ order. Some order.identifier;
    }

abbrev pub short_name_size : ℕ
short_name_size = 12

abbrev pub blank_byte : ℕ
blank_byte = 32

-- an identifier cut to the size, or padded to it with blanks
abbrev pub short_name : List ℕ → List ℕ
short_name identifier = take short_name_size (identifier ++ replicate short_name_size blank_byte)

-- checked against the identifier, and never written
abbrev pub short_name_field : Field
short_name_field =
    record {
      tag = 6;
      may_be_missing = true;
      fits = λ order value. bytes_eq value (short_name order.identifier);
      put = λ value order. order;
      get = λ order. None;
    }

abbrev pub with_codes : List ℕ → Draft → Draft
with_codes value draft =
    record draft {
      side = slice_index value 0;
      kind = slice_index value 1;
      time_in_force = slice_index value 2;
      qdp = slice_index value 3;
    }

abbrev pub codes_of : Draft → List ℕ
codes_of draft = draft.side ∷ (draft.kind ∷ (draft.time_in_force ∷ (draft.qdp ∷ [])))

abbrev pub codes_field : Field
codes_field = four_field 2 (λ value. value) with_codes codes_of

abbrev pub with_shares : ℕ → Draft → Draft
with_shares shares draft = record draft { shares = shares }

abbrev pub shares_of : Draft → List ℕ
shares_of draft = four_bytes draft.shares

abbrev pub shares_field : Field
shares_field = four_field 3 number_from with_shares shares_of

abbrev pub with_limit : ℕ → Draft → Draft
with_limit limit draft = record draft { limit = limit }

abbrev pub limit_of : Draft → List ℕ
limit_of draft = four_bytes draft.limit

abbrev pub limit_field : Field
limit_field = four_field 4 number_from with_limit limit_of

abbrev pub with_offset : ℤ → Draft → Draft
with_offset offset draft = record draft { offset = offset }

-- missing when 0
abbrev pub offset_field : Field
offset_field =
    record {
      tag = 5;
      may_be_missing = true;
      fits = λ order value. (length value == 2) && not (number_from value == 0);
      put = λ value order. with_draft (with_offset (signed_from value) order.draft) order;
      get = λ order. if is_zero order.draft.offset then None else Some (signed_bytes order.draft.offset);
    }

-- the fields of a ticket, in this order
abbrev pub ticket_layout : List Field
ticket_layout = codes_field ∷ (shares_field ∷ (limit_field ∷ (offset_field ∷ [])))

-- the fields of an order
abbrev pub layout : List Field
layout = identifier_field ∷ (short_name_field ∷ ticket_layout)
