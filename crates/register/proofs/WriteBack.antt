-- Writing an order that was read gives the bytes that it was read from, row by row. Cite writes_back.
use Rattle.std.proofs.Common.{◌≡◌, ℕ, ◌+◌, ◌*◌, ◌/◌, ◌%◌, ◌<◌, Bool, true, false, not, cond, ◌&&◌, eqb, leb, List, [], ◌∷◌, ◌++◌, length, get_or, take, drop, ℤ, pos, Some, None, Ok, Err, Option, Result, sym, refl, ap, ◌∙◌, subst, append-nil, arith}
use Rattle.std.specs.List.{flat_map, AllByRecursion as Every}
use Rattle.std.proofs.lemmas.List.{length-take-le, take-append-drop}
use Rattle.std.proofs.ByRecursion.{All-take, All-drop}
use Rattle.std.proofs.lemmas.Bool.{leb-true, eqb-true, eqb-false, and_parts, not-true, true≢false}
use Rattle.terms.specs.Judging.{is_zero}
use Rattle.register.specs.declared.fault.Fault.{Fault}
use Rattle.register.specs.declared.fault.Fault.TheVariants.{CutShort, Malformed}
use Rattle.register.specs.Numbers.{number_from, four_bytes, signed_from, signed_bytes}
use Rattle.register.specs.Layout.{Listed, Field, layout, ticket_layout, identifier_field, short_name_field, codes_field, shares_field, limit_field, offset_field, codes_of, field_bytes, blank}
use Rattle.register.specs.Reading.{Taken, Cursor, take_field, place_in, next_byte_is, read_tagged, read_present, read_field, read_fields, read_order}
use Rattle.register.specs.Orders.{tagged_bytes, order_bytes, register_bytes}
use Rattle.register.specs.RoundTrip.{has_short_name, ReadsAs, Byte}
use Rattle.register.proofs.Numbers.{four_again, signed_again}
use Rattle.register.proofs.Offsets.{offset_there}
use Rattle.register.proofs.ReadBack.{missing_back, further, nothing_left, offset_part, written_out}

-- a field that was taken, put together again
pub record Again (bs : List ℕ) (x : Taken) : Type 0 where
  pub whole : field_bytes x.tag x.value ++ x.rest ≡ bs
  pub value : Every Byte x.value
  pub rest : Every Byte x.rest

again_if : (t a b : ℕ) (bs : List ℕ) (x : Taken) (c : Bool) → a < 256 → b < 256 → Every Byte bs → leb (a * 256 + b) (length bs) ≡ c → cond c (Some (record { tag = t; value = take (a * 256 + b) bs; rest = drop (a * 256 + b) bs })) None ≡ Some x → Again (t ∷ (a ∷ (b ∷ bs))) x
again_if t a b bs x false ha hb all l e = absurd (let z : ◌≡◌ {A = ℕ} 0 1 = cc in omega arith)
again_if t a b bs x true ha hb all l e =
    let n = a * 256 + b in
    let y : Taken = record { tag = t; value = take n bs; rest = drop n bs } in
    let same : y ≡ x = cc in
    let long : length (take n bs) ≡ n = length-take-le n bs (leb-true n (length bs) l) in
    let high : length (take n bs) / 256 % 256 ≡ a = omega arith in
    let low : length (take n bs) % 256 ≡ b = omega arith in
    subst (Again (t ∷ (a ∷ (b ∷ bs)))) same
    (record {
      whole = ap (λ k. t ∷ (k ∷ ((length (take n bs) % 256) ∷ (take n bs ++ drop n bs)))) high
          ∙ ap (λ k. t ∷ (a ∷ (k ∷ (take n bs ++ drop n bs)))) low
          ∙ ap (λ xs. t ∷ (a ∷ (b ∷ xs))) (take-append-drop n bs);
      value = All-take Byte n bs all;
      rest = All-drop Byte n bs all;
    })

again : (bs : List ℕ) (x : Taken) → Every Byte bs → take_field bs ≡ Some x → Again bs x
again [] x all e = absurd (let z : ◌≡◌ {A = ℕ} 0 1 = cc in omega arith)
again (t ∷ []) x all e = absurd (let z : ◌≡◌ {A = ℕ} 0 1 = cc in omega arith)
again (t ∷ (a ∷ [])) x all e = absurd (let z : ◌≡◌ {A = ℕ} 0 1 = cc in omega arith)
again (t ∷ (a ∷ (b ∷ bs))) x all e = again_if t a b bs x (leb (a * 256 + b) (length bs)) all.1.0 all.1.1.0 all.1.1.1 refl e

-- the reading has gone past a row whose value is there
pub record Past (total start : ℕ) (f : Field) (fs : List Field) (c d : Cursor) : Type 0 where
  pub taken : Taken
  pub from : take_field c.rest ≡ Some taken
  pub tag : taken.tag ≡ f.tag
  pub fits : f.fits c.order taken.value ≡ true
  pub then : read_fields total start fs (record { order = f.put taken.value c.order; rest = taken.rest }) ≡ Ok d

module _ (total start : ℕ) (f : Field) (fs : List Field) (c d : Cursor) where
  after_that : Result Cursor Fault → Result Cursor Fault
  after_that (Err e) = Err e
  after_that (Ok e) = read_fields total start fs e

  by_fit : (x : Taken) → take_field c.rest ≡ Some x → x.tag ≡ f.tag → (b : Bool) → f.fits c.order x.value ≡ b → after_that (cond b (Ok (record { order = f.put x.value c.order; rest = x.rest })) (Err (Malformed start))) ≡ Ok d → Past total start f fs c d
  unfolding after_that
  by_fit x from tag false h e = absurd (let z : ◌≡◌ {A = ℕ} 0 1 = cc in omega arith)
  by_fit x from tag true h e = record { taken = x; from = from; tag = tag; fits = h; then = e }

  if_tagged : Result Taken Fault → Result Cursor Fault
  if_tagged (Err e) = Err e
  if_tagged (Ok x) = cond (f.fits c.order x.value) (Ok (record { order = f.put x.value c.order; rest = x.rest })) (Err (Malformed start))

  by_tag : (x : Taken) → take_field c.rest ≡ Some x → (b : Bool) → eqb x.tag f.tag ≡ b → after_that (if_tagged (cond b (Ok x) (Err (Malformed start)))) ≡ Ok d → Past total start f fs c d
  unfolding after_that if_tagged
  by_tag x from false h e = absurd (let z : ◌≡◌ {A = ℕ} 0 1 = cc in omega arith)
  by_tag x from true h e = by_fit x from (eqb-true x.tag f.tag h) (f.fits c.order x.value) refl e

  by_taken : (t : Option Taken) → take_field c.rest ≡ t → after_that (if_tagged (elim t [ None ↦ Err (CutShort (place_in total c.rest)) | Some x ↦ cond (eqb x.tag f.tag) (Ok x) (Err (Malformed start)) ])) ≡ Ok d → Past total start f fs c d
  unfolding after_that if_tagged
  by_taken None h e = absurd (let z : ◌≡◌ {A = ℕ} 0 1 = cc in omega arith)
  by_taken (Some x) h e = by_tag x h (eqb x.tag f.tag) refl e

  tagged_is : (t : Result Taken Fault) → if_tagged t ≡ elim t as (λ _. Result Cursor Fault) [ Err e ↦ Err e | Ok x ↦ cond (f.fits c.order x.value) (Ok (record { order = f.put x.value c.order; rest = x.rest })) (Err (Malformed start)) ]
  unfolding if_tagged
  tagged_is (Err e) = refl
  tagged_is (Ok x) = refl

  after_is : (r : Result Cursor Fault) → after_that r ≡ elim r as (λ _. Result Cursor Fault) [ Err e ↦ Err e | Ok e ↦ read_fields total start fs e ]
  unfolding after_that
  after_is (Err e) = refl
  after_is (Ok e) = refl

  by_presence : (b : Bool) → b ≡ false → after_that (cond b (Ok c) (read_present total start f c)) ≡ Ok d → Past total start f fs c d
  by_presence true h e = absurd (let z : true ≡ false = h in true≢false z)
  by_presence false h e =
      by_taken (take_field c.rest) refl (ap after_that (tagged_is (read_tagged total start c.rest f.tag)) ∙ e)

  pub past : (f.may_be_missing && not (next_byte_is f.tag c.rest)) ≡ false → read_fields total start (f ∷ fs) c ≡ Ok d → Past total start f fs c d
  unfolding read_fields
  past h e = by_presence (f.may_be_missing && not (next_byte_is f.tag c.rest)) h (after_is (read_field total start f c) ∙ e)

-- values of four bytes, and of two
codes_again : (v : List ℕ) → length v ≡ 4 → get_or v 0 0 ∷ (get_or v 1 0 ∷ (get_or v 2 0 ∷ (get_or v 3 0 ∷ []))) ≡ v
codes_again [] h = absurd (omega arith)
codes_again (a ∷ []) h = absurd (omega arith)
codes_again (a ∷ (b ∷ [])) h = absurd (omega arith)
codes_again (a ∷ (b ∷ (c ∷ []))) h = absurd (omega arith)
codes_again (a ∷ (b ∷ (c ∷ (d ∷ [])))) h = refl
codes_again (a ∷ (b ∷ (c ∷ (d ∷ (e ∷ v))))) h = absurd (omega arith)

number_again : (v : List ℕ) → length v ≡ 4 → Every Byte v → four_bytes (number_from v) ≡ v
number_again [] h all = absurd (omega arith)
number_again (a ∷ []) h all = absurd (omega arith)
number_again (a ∷ (b ∷ [])) h all = absurd (omega arith)
number_again (a ∷ (b ∷ (c ∷ []))) h all = absurd (omega arith)
number_again (a ∷ (b ∷ (c ∷ (d ∷ [])))) h all = four_again a b c d all.0 all.1.0 all.1.1.0 all.1.1.1.0
number_again (a ∷ (b ∷ (c ∷ (d ∷ (e ∷ v))))) h all = absurd (omega arith)

offset_again : (v : List ℕ) → length v ≡ 2 → (number_from v ≡ 0 → ⊥) → Every Byte v → (signed_bytes (signed_from v) ≡ v) × (is_zero (signed_from v) ≡ false)
offset_again [] h nz all = absurd (omega arith)
offset_again (a ∷ []) h nz all = absurd (omega arith)
offset_again (a ∷ (b ∷ [])) h nz all = signed_again a b all.0 all.1.0 nz
offset_again (a ∷ (b ∷ (c ∷ v))) h nz all = absurd (omega arith)

-- a field that was read under a tag, as it is written
tagged_again : (bs : List ℕ) (x : Taken) (tag : ℕ) (v : List ℕ) → Again bs x → x.tag ≡ tag → v ≡ x.value → field_bytes tag v ++ x.rest ≡ bs
tagged_again bs x tag v a e f = ap (λ w. field_bytes tag w ++ x.rest) f ∙ ap (λ t. field_bytes t x.value ++ x.rest) (sym e) ∙ a.whole

module _ (total start : ℕ) (id v2 v3 v4 : List ℕ) where
  -- the order with an offset
  abbrev read : ℤ → Listed
  read z =
      record {
        identifier = id;
        draft = record { side = get_or v2 0 0; kind = get_or v2 1 0; time_in_force = get_or v2 2 0; qdp = get_or v2 3 0; shares = number_from v3; limit = number_from v4; offset = z };
      }

  -- an offset ends an order: it is there, or it is 0
  ended : (rest : List ℕ) (d : Cursor) → Every Byte rest → read_fields total start (offset_field ∷ []) (record { order = read (pos 0); rest = rest }) ≡ Ok d
      → (z : ℤ) × (d.order ≡ read z) × (offset_part 0 0 id (read z).draft d.rest ++ d.rest ≡ rest) × Every Byte d.rest
  ended rest d all h = by_next (next_byte_is 5 rest) refl
    where
      by_next : (b : Bool) → next_byte_is 5 rest ≡ b → (z : ℤ) × (d.order ≡ read z) × (offset_part 0 0 id (read z).draft d.rest ++ d.rest ≡ rest) × Every Byte d.rest
      by_next false gone =
          let c : Cursor = record { order = read (pos 0); rest = rest } in
          let last : Ok c ≡ Ok d = sym (further total start offset_field [] c c (missing_back total start offset_field c refl gone) ∙ nothing_left total start c) ∙ h in
          let same : c ≡ d = cc in
          (pos 0, ap (λ (e : Cursor). e.order) (sym same), ap (λ (e : Cursor). e.rest) (sym same), subst (λ (e : Cursor). Every Byte e.rest) same all)
      by_next true there =
          let c : Cursor = record { order = read (pos 0); rest = rest } in
          let p = past total start offset_field [] c d (ap not there) h in
          let x = p.taken in
          let a = again rest x all p.from in
          let parts = and_parts (eqb (length x.value) 2) (not (eqb (number_from x.value) 0)) p.fits in
          let back = offset_again x.value (eqb-true (length x.value) 2 parts.0) (eqb-false (number_from x.value) 0 (not-true _ parts.1)) a.value in
          let z = signed_from x.value in
          let e : Cursor = record { order = read z; rest = x.rest } in
          let last : Ok e ≡ Ok d = sym (nothing_left total start e) ∙ p.then in
          let same : e ≡ d = cc in
          let written = ap (λ ts. flat_map tagged_bytes ts ++ x.rest) (offset_there (read z) back.1) ∙ ap (λ xs. xs ++ x.rest) (append-nil (field_bytes 5 (signed_bytes z))) ∙ tagged_again rest x 5 (signed_bytes z) a p.tag back.0 in
          subst (λ (e : Cursor). (z : ℤ) × (e.order ≡ read z) × (offset_part 0 0 id (read z).draft e.rest ++ e.rest ≡ rest) × Every Byte e.rest) same
          (z, refl, written, a.rest)

-- one order: the bytes that were read, and those that follow
pub order_again : (total start : ℕ) (bs : List ℕ) (d : Cursor) → Every Byte bs → has_short_name bs ≡ false → read_fields total start layout (record { order = blank; rest = bs }) ≡ Ok d → (order_bytes d.order ++ d.rest ≡ bs) × Every Byte d.rest
order_again total start bs d all plain h =
    let p1 = past total start identifier_field (short_name_field ∷ ticket_layout) (record { order = blank; rest = bs }) d refl h in
    let x1 = p1.taken in
    let a1 = again bs x1 all p1.from in
    let gone : next_byte_is 6 x1.rest ≡ false = ap (λ t. elim t as (λ _. Bool) [ None ↦ false | Some x ↦ next_byte_is 6 x.rest ]) (sym p1.from) ∙ plain in
    let c1 : Cursor = record { order = identifier_field.put x1.value blank; rest = x1.rest } in
    let h2 = sym (further total start short_name_field ticket_layout c1 c1 (missing_back total start short_name_field c1 refl gone)) ∙ p1.then in
    let p2 = past total start codes_field (shares_field ∷ (limit_field ∷ (offset_field ∷ []))) c1 d refl h2 in
    let x2 = p2.taken in
    let a2 = again x1.rest x2 a1.rest p2.from in
    let c2 : Cursor = record { order = codes_field.put x2.value c1.order; rest = x2.rest } in
    let p3 = past total start shares_field (limit_field ∷ (offset_field ∷ [])) c2 d refl p2.then in
    let x3 = p3.taken in
    let a3 = again x2.rest x3 a2.rest p3.from in
    let c3 : Cursor = record { order = shares_field.put x3.value c2.order; rest = x3.rest } in
    let p4 = past total start limit_field (offset_field ∷ []) c3 d refl p3.then in
    let x4 = p4.taken in
    let a4 = again x3.rest x4 a3.rest p4.from in
    let e = ended total start x1.value x2.value x3.value x4.value x4.rest d a4.rest p4.then in
    let o = read total start x1.value x2.value x3.value x4.value e.0 in
    let codes = codes_again x2.value (eqb-true (length x2.value) 4 p2.fits) in
    let shares = number_again x3.value (eqb-true (length x3.value) 4 p3.fits) a3.value in
    let limit = number_again x4.value (eqb-true (length x4.value) 4 p4.fits) a4.value in
    let id = x1.value in
    let from_4 : field_bytes 4 (four_bytes (number_from x4.value)) ++ (offset_part 0 0 id o.draft d.rest ++ d.rest) ≡ x3.rest =
    ap (λ xs. field_bytes 4 (four_bytes (number_from x4.value)) ++ xs) e.2 ∙ tagged_again x3.rest x4 4 (four_bytes (number_from x4.value)) a4 p4.tag limit in
    let from_3 = ap (λ xs. field_bytes 3 (four_bytes (number_from x3.value)) ++ xs) from_4 ∙ tagged_again x2.rest x3 3 (four_bytes (number_from x3.value)) a3 p3.tag shares in
    let from_2 = ap (λ xs. field_bytes 2 (codes_of o.draft) ++ xs) from_3 ∙ tagged_again x1.rest x2 2 (codes_of o.draft) a2 p2.tag codes in
    let from_1 = ap (λ xs. field_bytes 1 id ++ xs) from_2 ∙ tagged_again bs x1 1 id a1 p1.tag refl in
    (ap (λ o. order_bytes o ++ d.rest) e.1 ∙ written_out 0 0 id o.draft d.rest ∙ from_1, e.3)

-- a whole register
pub writes_back : (total : ℕ) (os : List Listed) (bs : List ℕ) → Every Byte bs → ReadsAs total bs os → register_bytes os ≡ bs
writes_back total [] [] all h = refl
writes_back total [] (b ∷ bs) all h = absurd (let z : ◌≡◌ {A = ℕ} 0 1 = cc in omega arith)
writes_back total (o ∷ os) [] all h = absurd (let e = h.1 in let z : ◌≡◌ {A = ℕ} 0 1 = cc in omega arith)
writes_back total (o ∷ os) (b ∷ bs) all h =
    let first = h.1 in
    let d : Cursor = record { order = o; rest = h.0 } in
    let one : read_order total (b ∷ bs) ≡ Ok d = cc in
    let here = order_again total (place_in total (b ∷ bs)) (b ∷ bs) d all h.2 one in
    ap (λ xs. order_bytes o ++ xs) (writes_back total os h.0 here.1 h.3) ∙ here.0
