-- Reading a register: what any bytes say, or the first fault in them. The register has `total` bytes, and the order that is read
-- begins at the place `start`.
use Rattle.std.specs.Prelude.{ℕ, ◌+◌, ◌-◌, ◌*◌, Bool, false, not, if◌then◌else◌, ◌&&◌, List, [], ◌∷◌, length, take, drop, Some, None, Ok, Err, Option, Result, ◌==◌, nat_le}
use Rattle.register.specs.declared.fault.Fault.{Fault}
use Rattle.register.specs.declared.fault.Fault.TheVariants.{CutShort, Malformed}
use Rattle.register.specs.Layout.{Listed, Field, layout, blank}

-- a field taken off the front of some bytes
pub record Taken : Type 0 where
  pub tag : ℕ
  pub value : List ℕ
  pub rest : List ℕ

-- nothing where tag and both length bytes are not all there, or fewer bytes follow than the length says
abbrev pub take_field : List ℕ → Option Taken
take_field [] = None
take_field (tag ∷ []) = None
take_field (tag ∷ (high ∷ [])) = None
take_field (tag ∷ (high ∷ (low ∷ rest))) =
    if nat_le (high * 256 + low) (length rest)
    then Some (record { tag = tag; value = take (high * 256 + low) rest; rest = drop (high * 256 + low) rest })
    else None

-- how far a reading has come: the order so far, and the bytes still to read
pub record Cursor : Type 0 where
  pub order : Listed
  pub rest : List ℕ

-- where the bytes still to read begin
abbrev pub place_in : ℕ → List ℕ → ℕ
place_in total rest = total - length rest

abbrev pub next_byte_is : ℕ → List ℕ → Bool
next_byte_is tag [] = false
next_byte_is tag (byte ∷ rest) = byte == tag

-- the field at the front, which must have this tag
abbrev pub read_tagged : ℕ → ℕ → List ℕ → ℕ → Result Taken Fault
read_tagged total start rest tag =
    elim (take_field rest) [
      | None ↦ Err (CutShort (place_in total rest))
      | Some field ↦ if field.tag == tag then Ok field else Err (Malformed start)
    ]

-- the same, with a value of four bytes, and what `from` makes of it
abbrev pub read_four : {B : Type 0} → (List ℕ → B) → ℕ → ℕ → List ℕ → ℕ → Result (B × List ℕ) Fault
read_four from total start rest tag =
    elim (read_tagged total start rest tag) [
      | Err fault ↦ Err fault
      | Ok field ↦ if length field.value == 4 then Ok (from field.value, field.rest) else Err (Malformed start)
    ]

-- a field that must stand here
abbrev pub read_present : ℕ → ℕ → Field → Cursor → Result Cursor Fault
read_present total start row cursor =
    elim (read_tagged total start cursor.rest row.tag) [
      | Err fault ↦ Err fault
      | Ok field ↦
          if row.fits cursor.order field.value
          then Ok (record { order = row.put field.value cursor.order; rest = field.rest })
          else Err (Malformed start)
    ]

-- one field; where it may be missing, the next byte tells
abbrev pub read_field : ℕ → ℕ → Field → Cursor → Result Cursor Fault
read_field total start row cursor =
    if row.may_be_missing && not (next_byte_is row.tag cursor.rest) then Ok cursor else read_present total start row cursor

unfoldable pub read_fields : ℕ → ℕ → List Field → Cursor → Result Cursor Fault
read_fields total start [] cursor = Ok cursor
read_fields total start (row ∷ rows) cursor =
    elim (read_field total start row cursor) [ Err fault ↦ Err fault | Ok after ↦ read_fields total start rows after ]

-- the order at the front of what is still to read
abbrev pub read_order : ℕ → List ℕ → Result Cursor Fault
read_order total rest = read_fields total (place_in total rest) layout (record { order = blank; rest = rest })

-- what comes next: nothing at the end, else an order and what follows it, or a fault
abbrev pub read_next : ℕ → List ℕ → Option (Result Cursor Fault)
read_next total [] = None
read_next total (byte ∷ rest) = Some (read_order total (byte ∷ rest))
