-- Reading meets faults of fields and of orders only. Cite next_plain.
use Rattle.std.proofs.Common.{◌≡◌, ℕ, Bool, true, false, not, cond, ◌&&◌, eqb, ◌⊎◌, List, [], ◌∷◌, Some, None, Ok, Err, Option, Result, refl, inl, inr}
use Rattle.register.specs.declared.fault.Fault.{Fault}
use Rattle.register.specs.declared.fault.Fault.TheVariants.{CutShort, Malformed}
use Rattle.register.specs.Faults.{fault_layer}
use Rattle.register.specs.Layout.{Field, layout, blank}
use Rattle.register.specs.Reading.{Taken, Cursor, place_in, take_field, next_byte_is, read_tagged, read_present, read_field, read_fields, read_order, read_next}

abbrev Plain : {X : Type 0} → Result X Fault → Type 0
Plain (Ok x) = Unit {0}
Plain (Err e) = (fault_layer e ≡ 1) ⊎ (fault_layer e ≡ 2)

plain_tagged : (total start tag : ℕ) (rest : List ℕ) → Plain (read_tagged total start rest tag)
plain_tagged total start tag rest = taken (take_field rest)
  where
    right : (x : Taken) (c : Bool) → Plain {X = Taken} (cond c (Ok x) (Err (Malformed start)))
    right x false = inr refl
    right x true = tt

    taken : (f : Option Taken) → Plain (elim f as (λ _. Result Taken Fault) [ None ↦ Err (CutShort (place_in total rest)) | Some x ↦ cond (eqb x.tag tag) (Ok x) (Err (Malformed start)) ])
    taken None = inl refl
    taken (Some x) = right x (eqb x.tag tag)

plain_present : (total start : ℕ) (f : Field) (c : Cursor) → Plain (read_present total start f c)
plain_present total start f c = tagged (read_tagged total start c.rest f.tag) (plain_tagged total start f.tag c.rest)
  where
    fit : (x : Taken) (b : Bool) → Plain {X = Cursor} (cond b (Ok (record { order = f.put x.value c.order; rest = x.rest })) (Err (Malformed start)))
    fit x false = inr refl
    fit x true = tt

    tagged : (t : Result Taken Fault) → Plain t → Plain (elim t as (λ _. Result Cursor Fault) [ Err e ↦ Err e | Ok x ↦ cond (f.fits c.order x.value) (Ok (record { order = f.put x.value c.order; rest = x.rest })) (Err (Malformed start)) ])
    tagged (Err e) h = h
    tagged (Ok x) h = fit x (f.fits c.order x.value)

plain_field : (total start : ℕ) (f : Field) (c : Cursor) → Plain (read_field total start f c)
plain_field total start f c = absent (f.may_be_missing && not (next_byte_is f.tag c.rest))
  where
    absent : (b : Bool) → Plain {X = Cursor} (cond b (Ok c) (read_present total start f c))
    absent true = tt
    absent false = plain_present total start f c

plain_fields : (total start : ℕ) (fs : List Field) (c : Cursor) → Plain (read_fields total start fs c)
unfolding read_fields
plain_fields total start [] c = tt
plain_fields total start (f ∷ fs) c = after (read_field total start f c) (plain_field total start f c) (plain_fields total start fs)
  where
    after : (r : Result Cursor Fault) → Plain r → ((d : Cursor) → Plain (read_fields total start fs d)) → Plain (elim r as (λ _. Result Cursor Fault) [ Err e ↦ Err e | Ok d ↦ read_fields total start fs d ])
    after (Err e) h ih = h
    after (Ok d) h ih = ih d

abbrev pub PlainNext : Option (Result Cursor Fault) → Type 0
PlainNext None = Unit {0}
PlainNext (Some (Ok c)) = Unit {0}
PlainNext (Some (Err e)) = (fault_layer e ≡ 1) ⊎ (fault_layer e ≡ 2)

plain_some : (r : Result Cursor Fault) → Plain r → PlainNext (Some r)
plain_some (Ok c) h = tt
plain_some (Err e) h = h

pub next_plain : (total : ℕ) (rest : List ℕ) → PlainNext (read_next total rest)
next_plain total [] = tt
next_plain total (b ∷ bs) =
    plain_some (read_order total (b ∷ bs)) (plain_fields total (place_in total (b ∷ bs)) layout (record { order = blank; rest = b ∷ bs }))
