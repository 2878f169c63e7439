-- Reading the bytes that were written of orders, row by row. Cite reads_back.
use Rattle.std.proofs.Common.{◌≡◌, ℕ, ◌+◌, ◌-◌, ◌*◌, ◌/◌, ◌%◌, ◌≤◌, Bool, true, false, not, cond, ◌&&◌, eqb, leb, List, [], ◌∷◌, ◌++◌, length, take, drop, ℤ, pos, negsuc, Some, None, Ok, Err, Result, refl, ap, ◌∙◌, append_assoc, append-nil, arith}
use Rattle.std.specs.List.{flat_map, AllByRecursion as Every}
use Rattle.std.proofs.lemmas.List.{length-append, take_at, drop_at}
use Rattle.std.proofs.lemmas.Bool.{le-leb, leb-true, leb-false, eq-eqb, ne_eqb, and_right, and_from, cond-true, cond-false}
use Rattle.terms.specs.declared.ticket.Draft.{Draft}
use Rattle.terms.specs.Judging.{is_zero}
use Rattle.register.specs.declared.fault.Fault.{Fault}
use Rattle.register.specs.declared.fault.Fault.TheVariants.{CutShort, Malformed}
use Rattle.register.specs.Numbers.{number_from, two_bytes, four_bytes, signed_from, signed_bytes}
use Rattle.register.specs.Layout.{Listed, Field, layout, ticket_layout, identifier_field, short_name_field, codes_field, shares_field, limit_field, offset_field, codes_of, field_bytes, blank}
use Rattle.register.specs.Reading.{Taken, Cursor, take_field, place_in, next_byte_is, read_tagged, read_present, read_field, read_fields, read_order, read_next}
use Rattle.register.specs.Orders.{tagged_bytes, row_then, order_fields, order_bytes, register_bytes}
use Rattle.register.specs.RoundTrip.{has_short_name, ReadsAs, In16Bits, InWidth}
use Rattle.register.proofs.Numbers.{two_back, four_back, signed_back}
use Rattle.register.proofs.Offsets.{offset_there, offset_absent}

abbrev taken : ℕ → List ℕ → List ℕ → Taken
taken tag v more = record { tag = tag; value = v; rest = more }

pub taken_back : (tag : ℕ) (v more : List ℕ) → length v ≤ 65535 → take_field (field_bytes tag v ++ more) ≡ Some (taken tag v more)
taken_back tag v more h =
    let n = length v / 256 % 256 * 256 + length v % 256 in
    let back : n ≡ length v = omega arith in
    let v_back = take_at v more (length v) refl in
    let more_back = drop_at v more (length v) refl in
    cond-true (leb n (length (v ++ more))) (Some (taken tag (take n (v ++ more)) (drop n (v ++ more)))) None (le-leb n (length (v ++ more)) (omega (arith, length-append v more)))
    ∙ ap (λ k. Some (taken tag (take k (v ++ more)) (drop k (v ++ more)))) back
    ∙ ap (λ xs. Some (taken tag xs (drop (length v) (v ++ more)))) v_back
    ∙ ap (λ xs. Some (taken tag v xs)) more_back

module _ (total start : ℕ) where
  tagged_back : (tag : ℕ) (v more : List ℕ) → length v ≤ 65535 → read_tagged total start (field_bytes tag v ++ more) tag ≡ Ok (taken tag v more)
  tagged_back tag v more h =
      ap (λ t. elim t as (λ _. Result Taken Fault) [ None ↦ Err (CutShort (place_in total (field_bytes tag v ++ more))) | Some x ↦ cond (eqb x.tag tag) (Ok x) (Err (Malformed start)) ]) (taken_back tag v more h)
      ∙ cond-true (eqb tag tag) (Ok (taken tag v more)) (Err (Malformed start)) (eq-eqb tag tag refl)

  -- a row whose value is there
  field_back : (f : Field) (o : Listed) (v more : List ℕ) → length v ≤ 65535 → f.fits o v ≡ true → read_field total start f (record { order = o; rest = field_bytes f.tag v ++ more }) ≡ Ok (record { order = f.put v o; rest = more })
  field_back f o v more h fit =
      let c : Cursor = record { order = o; rest = field_bytes f.tag v ++ more } in
      let there : (f.may_be_missing && not (next_byte_is f.tag c.rest)) ≡ false = and_right f.may_be_missing _ (ap not (eq-eqb f.tag f.tag refl)) in
      cond-false _ (Ok c) (read_present total start f c) there
      ∙ ap (λ t. elim t as (λ _. Result Cursor Fault) [ Err e ↦ Err e | Ok x ↦ cond (f.fits o x.value) (Ok (record { order = f.put x.value o; rest = x.rest })) (Err (Malformed start)) ]) (tagged_back f.tag v more h)
      ∙ cond-true (f.fits o v) (Ok (record { order = f.put v o; rest = more })) (Err (Malformed start)) fit

  -- a row that has none
  pub missing_back : (f : Field) (c : Cursor) → f.may_be_missing ≡ true → next_byte_is f.tag c.rest ≡ false → read_field total start f c ≡ Ok c
  missing_back f c may gone =
      cond-true _ (Ok c) (read_present total start f c) (and_from f.may_be_missing _ may (ap not gone))

  pub further : (f : Field) (fs : List Field) (c d : Cursor) → read_field total start f c ≡ Ok d → read_fields total start (f ∷ fs) c ≡ read_fields total start fs d
  unfolding read_fields
  further f fs c d e = ap (λ r. elim r as (λ _. Result Cursor Fault) [ Err x ↦ Err x | Ok y ↦ read_fields total start fs y ]) e

  pub nothing_left : (c : Cursor) → read_fields total start [] c ≡ Ok c
  unfolding read_fields
  nothing_left c = refl

-- an order of these values
abbrev made : List ℕ → ℕ → ℕ → ℕ → ℕ → ℕ → ℕ → ℤ → Listed
made id a b c d shares limit offset =
    record {
      identifier = id;
      draft = record { side = a; kind = b; time_in_force = c; qdp = d; shares = shares; limit = limit; offset = offset };
    }

made_so : (id : List ℕ) (a b c d s t l k : ℕ) (y z : ℤ) → s ≡ t → l ≡ k → y ≡ z → made id a b c d s l y ≡ made id a b c d t k z
made_so id a b c d s t l k y z e f g = cc

-- what follows the identifier, up to the offset
abbrev pub behind : Draft → List ℕ → List ℕ
behind d rest = field_bytes 2 (codes_of d) ++ (field_bytes 3 (four_bytes d.shares) ++ (field_bytes 4 (four_bytes d.limit) ++ rest))

module _ (total start : ℕ) (id : List ℕ) (d : Draft) where
  -- the order when the offset is still to be read
  abbrev before_offset : Listed
  before_offset = made id d.side d.kind d.time_in_force d.qdp (number_from (four_bytes d.shares)) (number_from (four_bytes d.limit)) (pos 0)

  up_to_offset : (rest : List ℕ) → length id ≤ 65535 → read_fields total start layout (record { order = blank; rest = field_bytes 1 id ++ behind d rest }) ≡ read_fields total start (offset_field ∷ []) (record { order = before_offset; rest = rest })
  up_to_offset rest h =
      let o1 = identifier_field.put id blank in
      let o2 = codes_field.put (codes_of d) o1 in
      let o3 = shares_field.put (four_bytes d.shares) o2 in
      let r3 = field_bytes 3 (four_bytes d.shares) ++ (field_bytes 4 (four_bytes d.limit) ++ rest) in
      let r4 = field_bytes 4 (four_bytes d.limit) ++ rest in
      further total start identifier_field (short_name_field ∷ ticket_layout) _ (record { order = o1; rest = behind d rest }) (field_back total start identifier_field blank id (behind d rest) h refl)
      ∙ further total start short_name_field ticket_layout (record { order = o1; rest = behind d rest }) (record { order = o1; rest = behind d rest }) (missing_back total start short_name_field (record { order = o1; rest = behind d rest }) refl refl)
      ∙ further total start codes_field (shares_field ∷ (limit_field ∷ (offset_field ∷ []))) _ (record { order = o2; rest = r3 }) (field_back total start codes_field o1 (codes_of d) r3 (omega arith) refl)
      ∙ further total start shares_field (limit_field ∷ (offset_field ∷ [])) _ (record { order = o3; rest = r4 }) (field_back total start shares_field o2 (four_bytes d.shares) r4 (omega arith) refl)
      ∙ further total start limit_field (offset_field ∷ []) _ (record { order = before_offset; rest = rest }) (field_back total start limit_field o3 (four_bytes d.limit) rest (omega arith) refl)

zero_offset : (z : ℤ) → is_zero z ≡ true → pos 0 ≡ z
zero_offset (pos k) h = let none : 0 ≡ k = omega (arith, leb-true k 0 h) in ap pos none
zero_offset (negsuc k) h = cc

pub signed_long : (z : ℤ) → length (signed_bytes z) ≡ 2
signed_long (pos k) = refl
signed_long (negsuc k) = refl

signed_fits : (z : ℤ) → In16Bits z → is_zero z ≡ false → (eqb (length (signed_bytes z)) 2 && not (eqb (number_from (signed_bytes z)) 0)) ≡ true
signed_fits (pos k) h nz = ap not (ne_eqb (number_from (two_bytes k)) 0 (λ e. omega (arith, e, two_back k (omega arith), leb-false k 0 nz)))
signed_fits (negsuc k) h nz = ap not (ne_eqb (number_from (two_bytes (65535 - k))) 0 (λ e. omega (arith, e, two_back (65535 - k) (omega arith))))

module _ (total start : ℕ) (id : List ℕ) (d : Draft) (more : List ℕ) where
  abbrev pub listed : Listed
  listed = record { identifier = id; draft = d }

  -- the order with its offset, as it was read
  abbrev with_it : ℤ → Listed
  with_it z = made id d.side d.kind d.time_in_force d.qdp (number_from (four_bytes d.shares)) (number_from (four_bytes d.limit)) z

  abbrev pub offset_part : List ℕ
  offset_part = flat_map tagged_bytes (row_then 5 (offset_field.get listed) [])

  offset_back_if : (b : Bool) → is_zero d.offset ≡ b → In16Bits d.offset → next_byte_is 5 more ≡ false → read_fields total start (offset_field ∷ []) (record { order = with_it (pos 0); rest = offset_part ++ more }) ≡ Ok (record { order = with_it d.offset; rest = more })
  offset_back_if true zero_there w gone =
      ap (λ ts. read_fields total start (offset_field ∷ []) (record { order = with_it (pos 0); rest = flat_map tagged_bytes ts ++ more })) (offset_absent listed zero_there)
      ∙ further total start offset_field [] _ (record { order = with_it (pos 0); rest = more }) (missing_back total start offset_field (record { order = with_it (pos 0); rest = more }) refl gone)
      ∙ nothing_left total start (record { order = with_it (pos 0); rest = more })
      ∙ ap (λ z. Ok (record { order = with_it z; rest = more })) (zero_offset d.offset zero_there)
  offset_back_if false some_there w gone =
      let v = signed_bytes d.offset in
      ap (λ ts. read_fields total start (offset_field ∷ []) (record { order = with_it (pos 0); rest = flat_map tagged_bytes ts ++ more })) (offset_there listed some_there)
      ∙ ap (λ xs. read_fields total start (offset_field ∷ []) (record { order = with_it (pos 0); rest = xs ++ more })) (append-nil (field_bytes 5 v))
      ∙ further total start offset_field [] _ (record { order = with_it (signed_from v); rest = more }) (field_back total start offset_field (with_it (pos 0)) v more (omega (arith, signed_long d.offset)) (signed_fits d.offset w some_there))
      ∙ nothing_left total start (record { order = with_it (signed_from v); rest = more })
      ∙ ap (λ z. Ok (record { order = with_it z; rest = more })) (signed_back d.offset w)

  offset_back : In16Bits d.offset → next_byte_is 5 more ≡ false → read_fields total start (offset_field ∷ []) (record { order = with_it (pos 0); rest = offset_part ++ more }) ≡ Ok (record { order = with_it d.offset; rest = more })
  offset_back = offset_back_if (is_zero d.offset) refl

  pub written_out : order_bytes listed ++ more ≡ field_bytes 1 id ++ behind d (offset_part ++ more)
  unfolding order_fields
  written_out = ap (λ xs. 1 ∷ ((length id / 256 % 256) ∷ ((length id % 256) ∷ xs))) (append_assoc id (behind d offset_part) more)

  order_back : InWidth listed → next_byte_is 5 more ≡ false → read_fields total start layout (record { order = blank; rest = order_bytes listed ++ more }) ≡ Ok (record { order = listed; rest = more })
  order_back w gone =
      ap (λ xs. read_fields total start layout (record { order = blank; rest = xs })) written_out
      ∙ up_to_offset total start id d (offset_part ++ more) w.identifier
      ∙ offset_back w.offset gone
      ∙ ap (λ o. Ok (record { order = o; rest = more })) (made_so id _ _ _ _ _ _ _ _ _ _ (four_back d.shares w.shares) (four_back d.limit w.limit) refl)

-- the first byte of a register is that of an identifier
register_begins : (os : List Listed) → next_byte_is 5 (register_bytes os) ≡ false
unfolding order_fields
register_begins [] = refl
register_begins (o ∷ os) = refl

next_is : (total : ℕ) (o : Listed) (more : List ℕ) → read_next total (order_bytes o ++ more) ≡ Some (read_order total (order_bytes o ++ more))
unfolding order_fields
next_is total o more = refl

no_short_name : (o : Listed) (more : List ℕ) → length o.identifier ≤ 65535 → has_short_name (order_bytes o ++ more) ≡ false
no_short_name o more h =
    let rest = behind o.draft (offset_part 0 0 o.identifier o.draft more ++ more) in
    ap has_short_name (written_out 0 0 o.identifier o.draft more)
    ∙ ap (λ t. elim t as (λ _. Bool) [ None ↦ false | Some x ↦ next_byte_is 6 x.rest ]) (taken_back 1 o.identifier rest h)

pub reads_back : (total : ℕ) (os : List Listed) → Every InWidth os → ReadsAs total (register_bytes os) os
reads_back total [] ws = refl
reads_back total (o ∷ os) ws =
    let more = register_bytes os in
    let start = place_in total (order_bytes o ++ more) in (
      more,
      next_is total o more ∙ ap Some (order_back total start o.identifier o.draft more ws.0 (register_begins os)),
      no_short_name o more ws.0.identifier,
      reads_back total os ws.1,
    )
