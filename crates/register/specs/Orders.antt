-- Orders in bytes: the rows of the register's layout, followed from first to last.
use Rattle.std.specs.Prelude.{ℕ, List, [], ◌∷◌, Some, None, Option}
use Rattle.std.specs.List.{flat_map}
use Rattle.terms.specs.declared.ticket.Draft.{Draft}
use Rattle.terms.specs.Terms.{OrderTerms}
use Rattle.terms.specs.Codes.{side_code, kind_code, time_in_force_code, qdp_code}
use Rattle.register.specs.Layout.{Listed, Field, layout, field_bytes}

-- a field that is written
pub record Tagged : Type 0 where
  pub tag : ℕ
  pub value : List ℕ

abbrev pub tagged_bytes : Tagged → List ℕ
tagged_bytes field = field_bytes field.tag field.value

-- what one row writes of an order, before what the rows after it write
abbrev pub row_then : ℕ → Option (List ℕ) → List Tagged → List Tagged
row_then tag None fields = fields
row_then tag (Some value) fields = record { tag = tag; value = value } ∷ fields

abbrev pub fields_by : List Field → Listed → List Tagged
fields_by [] order = []
fields_by (row ∷ rows) order = row_then row.tag (row.get order) (fields_by rows order)

-- the fields of an order: no offset of 0, and never a short name
unfoldable pub order_fields : Listed → List Tagged
order_fields order = fields_by layout order

abbrev pub order_bytes : Listed → List ℕ
order_bytes order = flat_map tagged_bytes (order_fields order)

abbrev pub register_bytes : List Listed → List ℕ
register_bytes orders = flat_map order_bytes orders

-- terms as a register lists them: the shares are those that are left
abbrev pub draft_of : OrderTerms → ℕ → Draft
draft_of terms left =
    record {
      side = side_code terms.side;
      kind = kind_code terms.kind;
      time_in_force = time_in_force_code terms.time_in_force;
      qdp = qdp_code terms.qdp;
      shares = left;
      limit = terms.limit;
      offset = terms.offset;
    }

abbrev pub order_of : List ℕ → OrderTerms → ℕ → Listed
order_of identifier terms left = record { identifier = identifier; draft = draft_of terms left }
