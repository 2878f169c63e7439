-- A page that holds orders holds one more after an order is written, and the same where it does not fit.
-- Cite holds_order with lawful_width for one order, wholes_more and wholes_stop for a list of them, answer_reads for a
-- whole register.
use Rattle.std.proofs.Common.{◌≡◌, ℕ, suc, ◌+◌, ◌-◌, ◌^◌, ◌<◌, ◌≤◌, Bool, true, false, cond, leb, List, [], ◌∷◌, ◌++◌, length, take, drop, ℤ, pos, negsuc, Result, sym, refl, ap, ◌∙◌, subst, append_assoc, append-nil, arith, MatchResult}
use Rattle.std.specs.List.{AllByRecursion as Every}
use Rattle.std.proofs.lemmas.List.{length-append, length-take-le, take_at, flat_map_more}
use Rattle.std.proofs.ByRecursion.{All-push}
use Rattle.std.proofs.lemmas.Bool.{leb-true, and_parts, cond-true, cond-false}
use Rattle.terms.specs.declared.ticket.Terms.{Terms}
use Rattle.terms.specs.Judging.{offset_in_range}
use Rattle.terms.specs.Made.{terms_of}
use Rattle.register.specs.Layout.{Listed}
use Rattle.register.specs.declared.writer.NoRoom.{NoRoom}
use Rattle.register.specs.Orders.{Tagged, tagged_bytes, order_fields, order_bytes, register_bytes, order_of}
use Rattle.register.specs.Filling.{Page, room, put_at, fits, order_fits, fitted_fields, with_order, orders_fit, whole_orders}
use Rattle.register.specs.Refusal.{mark_if}
use Rattle.register.specs.RoundTrip.{In16Bits, InWidth, ReadsAs, Holds}
use Rattle.register.proofs.Pages.{length_put}
use Rattle.register.proofs.ReadBack.{reads_back}
use Rattle.register.proofs.Several.{fits_within, next_is, wholes}

-- in an order that fits, two bytes tell the length of the identifier
identifier_short : (free : ℕ) (o : Listed) → order_fits free o ≡ true → length o.identifier ≤ 65535
unfolding order_fields
identifier_short free o h =
    let first : Tagged = record { tag = 1; value = o.identifier } in
    let both = (and_parts (fits free first) _ h).0 in
    leb-true (length o.identifier) 65535 (and_parts (leb (length o.identifier) 65535) (leb (length (tagged_bytes first)) free) both).0

small_offset : (z : ℤ) → offset_in_range z ≡ true → In16Bits z
small_offset (pos k) h = omega (arith, leb-true k 100 h)
small_offset (negsuc k) h = omega (arith, leb-true (suc k) 100 h)

pub lawful_width : (free : ℕ) (id : List ℕ) (w : Terms) (left : ℕ) → left < 2 ^ 32 → order_fits free (order_of id (terms_of w) left) ≡ true → InWidth (order_of id (terms_of w) left)
lawful_width free id w left small h =
    record {
      identifier = identifier_short free (order_of id (terms_of w) left) h;
      shares = small;
      limit = omega (arith, w.limit_lawful.1);
      offset = small_offset w.offset w.offset_lawful;
    }

-- what is below the mark after bytes are put at it
put_below : (b : List ℕ) (m : ℕ) (xs : List ℕ) → m ≤ length b → take (m + length xs) (put_at b m xs) ≡ take m b ++ xs
put_below b m xs h =
    ap (take (m + length xs)) (sym (append_assoc (take m b) xs (drop (m + length xs) b)))
    ∙ take_at (take m b ++ xs) (drop (m + length xs) b) (m + length xs) (length-append (take m b) xs ∙ ap (λ n. n + length xs) (length-take-le m b h))

left_below : (b : List ℕ) (m : ℕ) (xs : List ℕ) → m ≤ length b → take m (put_at b m xs) ≡ take m b
left_below b m xs h = take_at (take m b) (xs ++ drop (m + length xs) b) m (length-take-le m b h)

-- bytes that are those of orders are read as these orders
holds_so : (p : Page) (os : List Listed) → p.mark ≤ length p.bytes → take p.mark p.bytes ≡ register_bytes os → Every InWidth os → Holds p os
holds_so p os within bytes widths =
    record { within = within; bytes = bytes; widths = widths; reads = subst (λ bs. ReadsAs p.mark bs os) (sym bytes) (reads_back p.mark os widths) }

-- a page on which all or part of an order was put
module _ (p : Page) (o : Listed) (os : List Listed) (h : Holds p os) where
  holds_if : (b : Bool) → order_fits (room p) o ≡ b → (order_fits (room p) o ≡ true → InWidth o) → Holds (with_order p o) (os ++ cond b (o ∷ []) [])
  holds_if true fit w =
      let ob = order_bytes o in
      let fitted = fits_within p o [] fit in
      subst (λ q. Holds q (os ++ o ∷ [])) (sym (next_is p o [] fit))
      (holds_so (record { bytes = put_at p.bytes p.mark ob; mark = p.mark + length ob }) (os ++ o ∷ [])
      (omega (arith, length_put p.bytes p.mark ob fitted, fitted))
      (put_below p.bytes p.mark ob h.within ∙ ap (λ xs. xs ++ ob) h.bytes ∙ flat_map_more order_bytes [] os o)
      (All-push InWidth os o h.widths (w fit)))
  holds_if false fit w =
      let part = fitted_fields (room p) o in
      let half : Page = record { bytes = put_at p.bytes p.mark part; mark = p.mark } in
      let same : with_order p o ≡ half = cond-false (order_fits (room p) o) _ half fit in
      subst (λ q. Holds q (os ++ [])) (sym same)
      (subst (Holds half) (sym (append-nil os))
      (holds_so half os
      (simp length-append (omega (arith, length-take-le p.mark p.bytes h.within)))
      (left_below p.bytes p.mark part h.within ∙ h.bytes)
      h.widths))

  pub holds_order : (order_fits (room p) o ≡ true → InWidth o) → Holds (with_order p o) (os ++ whole_orders (room p) (o ∷ []))
  holds_order = holds_if (order_fits (room p) o) refl

-- the whole ones of a list, by its first
module _ (p : Page) (o : Listed) (os : List Listed) where
  pub wholes_more : (ds : List Listed) → order_fits (room p) o ≡ true → ds ++ whole_orders (room p) (o ∷ os) ≡ (ds ++ whole_orders (room p) (o ∷ [])) ++ whole_orders (room (with_order p o)) os
  wholes_more ds h =
      ap (λ xs. ds ++ xs) (wholes p o os h)
      ∙ sym (append_assoc ds (o ∷ []) (whole_orders (room (with_order p o)) os))
      ∙ ap (λ xs. (ds ++ xs) ++ whole_orders (room (with_order p o)) os) (sym (cond-true (order_fits (room p) o) (o ∷ []) [] h))

  pub wholes_stop : order_fits (room p) o ≡ false → whole_orders (room p) (o ∷ os) ≡ whole_orders (room p) (o ∷ [])
  wholes_stop h = cond-false (order_fits (room p) o) _ [] h ∙ sym (cond-false (order_fits (room p) o) (o ∷ []) [] h)

-- orders that fit are whole ones
whole_all : (free : ℕ) (os : List Listed) → orders_fit free os ≡ true → whole_orders free os ≡ os
whole_all free [] h = refl
whole_all free (o ∷ os) h =
    let both = and_parts (order_fits free o) (orders_fit (free - length (order_bytes o)) os) h in
    cond-true (order_fits free o) (o ∷ whole_orders (free - length (order_bytes o)) os) [] both.0
    ∙ ap (λ xs. o ∷ xs) (whole_all (free - length (order_bytes o)) os both.1)

-- what the answer says of the register that is written
pub answer_reads : (free : ℕ) (os : List Listed) (q : Page) (is : List ℕ) (r : Result ℕ NoRoom) → r ≡ mark_if (orders_fit free os) q.mark → is ≡ q.bytes → Holds q (whole_orders free os) → MatchResult r (λ mark. ReadsAs mark (take mark is) os) (λ e. ReadsAs e.place (take e.place is) (whole_orders free os))
answer_reads free os q is r told same h =
    subst (λ x. MatchResult x Whole Part) (sym told) (by (orders_fit free os) refl)
  where
    Whole : ℕ → Type 0
    Whole mark = ReadsAs mark (take mark is) os

    Part : NoRoom → Type 0
    Part e = ReadsAs e.place (take e.place is) (whole_orders free os)

    read : ReadsAs q.mark (take q.mark is) (whole_orders free os)
    read = subst (λ bs. ReadsAs q.mark (take q.mark bs) (whole_orders free os)) (sym same) h.reads

    by : (fit : Bool) → orders_fit free os ≡ fit → MatchResult (mark_if fit q.mark) Whole Part
    by true e = subst (ReadsAs q.mark (take q.mark is)) (whole_all free os e) read
    by false e = read
