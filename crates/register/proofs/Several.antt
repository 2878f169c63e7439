-- Orders written one after another: an order that fits leaves the rest to be written on from it, one that does not ends
-- the writing. Cite nothing_more at the end, one_more, one_fits and wholes after an order that was written, half_left,
-- none_fits, mark_back and refused_told after one that was not.
use Rattle.std.proofs.Common.{◌≡◌, ℕ, ◌+◌, ◌-◌, ◌≤◌, Bool, true, false, ◌&&◌, leb, List, [], ◌∷◌, ◌++◌, length, Err, sym, ap, ◌∙◌, append_assoc, add-zero, add_assoc, arith}
use Rattle.std.specs.List.{flat_map}
use Rattle.std.proofs.lemmas.List.{length-append}
use Rattle.std.proofs.lemmas.Bool.{leb-true, and_parts, cond-true, cond-false}
use Rattle.register.specs.Layout.{Listed}
use Rattle.register.specs.declared.writer.NoRoom.{NoRoom}
use Rattle.register.specs.Orders.{Tagged, tagged_bytes, order_fields, order_bytes, register_bytes}
use Rattle.register.specs.Filling.{Page, room, put_at, fits, all_fit, order_fits, fitted_fields, with_order, orders_fit, whole_orders, half_order, with_orders}
use Rattle.register.specs.Refusal.{done_if, mark_if}
use Rattle.register.proofs.Pages.{put_none, length_put, put_put}

length_fit : (free : ℕ) (ts : List Tagged) → all_fit free ts ≡ true → length (flat_map tagged_bytes ts) ≤ free
length_fit free [] h = omega arith
length_fit free (t ∷ ts) h =
    let both = and_parts (fits free t) (all_fit (free - length (tagged_bytes t)) ts) h in
    let here = leb-true (length (tagged_bytes t)) free (and_parts (leb (length t.value) 65535) (leb (length (tagged_bytes t)) free) both.0).1 in
    let rest = length_fit (free - length (tagged_bytes t)) ts both.1 in
    omega (arith, length-append (tagged_bytes t) (flat_map tagged_bytes ts))

-- an order has at least the three bytes before its identifier
order_long : (o : Listed) → 3 ≤ length (order_bytes o)
unfolding order_fields
order_long o = omega arith

page_eq : (b d : List ℕ) (m n : ℕ) → b ≡ d → m ≡ n → ◌≡◌ {A = Page} (record { bytes = b; mark = m }) (record { bytes = d; mark = n })
page_eq b d m n e f = cc

pub nothing_more : (p : Page) → with_orders p [] ≡ p
nothing_more p = page_eq _ _ _ _ (put_none p.bytes p.mark) (add-zero p.mark)

-- one order's answer, as that of them all
pub refused_told : (b fit : Bool) (place mark : ℕ) (x : NoRoom) → Err x ≡ done_if b place → fit ≡ false → mark ≡ place → Err x ≡ mark_if fit mark
refused_told true fit place mark x h f e = let z : ◌≡◌ {A = ℕ} 0 1 = cc in absurd (omega arith)
refused_told false fit place mark x h f e =
    let same : x ≡ record { place = place } = cc in
    ap Err same ∙ ap (λ n. mark_if false n) (sym e) ∙ ap (λ b. mark_if b mark) (sym f)

module _ (p : Page) (o : Listed) (os : List Listed) where
  abbrev size : ℕ
  size = length (order_bytes o)

  module _ (h : order_fits (room p) o ≡ true) where
    pub fits_within : p.mark + size ≤ length p.bytes
    fits_within = omega (arith, length_fit (room p) (order_fields o) h, order_long o)

    abbrev next : Page
    next = record { bytes = put_at p.bytes p.mark (order_bytes o); mark = p.mark + size }

    pub next_is : with_order p o ≡ next
    next_is = cond-true (order_fits (room p) o) next (record { bytes = put_at p.bytes p.mark (fitted_fields (room p) o); mark = p.mark }) h

    room_less : room next ≡ room p - size
    room_less = omega (arith, length_put p.bytes p.mark (order_bytes o) fits_within, fits_within)

    pub one_fits : orders_fit (room p) (o ∷ os) ≡ orders_fit (room (with_order p o)) os
    one_fits =
        ap (λ b. b && orders_fit (room p - size) os) h
        ∙ ap (λ n. orders_fit n os) (sym room_less)
        ∙ ap (λ (q : Page). orders_fit (room q) os) (sym next_is)

    wholes_next : whole_orders (room p) (o ∷ os) ≡ o ∷ whole_orders (room next) os
    wholes_next =
        cond-true (order_fits (room p) o) (o ∷ whole_orders (room p - size) os) [] h ∙ ap (λ n. o ∷ whole_orders n os) (sym room_less)

    pub wholes : whole_orders (room p) (o ∷ os) ≡ o ∷ whole_orders (room (with_order p o)) os
    wholes = wholes_next ∙ ap (λ (q : Page). o ∷ whole_orders (room q) os) (sym next_is)

    halves : half_order (room p) (o ∷ os) ≡ half_order (room next) os
    halves =
        cond-true (order_fits (room p) o) (half_order (room p - size) os) (fitted_fields (room p) o) h ∙ ap (λ n. half_order n os) (sym room_less)

    pub one_more : with_orders p (o ∷ os) ≡ with_orders (with_order p o) os
    one_more =
        let rest = register_bytes (whole_orders (room next) os) in
        let half = half_order (room next) os in
        page_eq _ _ _ _
        (ap (λ ws. put_at p.bytes p.mark (register_bytes ws ++ half_order (room p) (o ∷ os))) wholes_next
        ∙ ap (λ hs. put_at p.bytes p.mark ((order_bytes o ++ rest) ++ hs)) halves
        ∙ ap (put_at p.bytes p.mark) (append_assoc (order_bytes o) rest half)
        ∙ sym (put_put p.bytes p.mark (order_bytes o) (rest ++ half) (omega (arith, fits_within))))
        (ap (λ ws. p.mark + length (register_bytes ws)) wholes_next
        ∙ ap (λ n. p.mark + n) (length-append (order_bytes o) rest)
        ∙ sym (add_assoc p.mark size (length rest)))
        ∙ ap (λ q. with_orders q os) (sym next_is)

  module _ (h : order_fits (room p) o ≡ false) where
    pub none_fits : orders_fit (room p) (o ∷ os) ≡ false
    none_fits = ap (λ b. b && orders_fit (room p - size) os) h

    pub mark_back : (with_order p o).mark ≡ p.mark
    mark_back = ap (λ (q : Page). q.mark) (cond-false (order_fits (room p) o) (record { bytes = put_at p.bytes p.mark (order_bytes o); mark = p.mark + size }) (record { bytes = put_at p.bytes p.mark (fitted_fields (room p) o); mark = p.mark }) h)

    pub half_left : with_orders p (o ∷ os) ≡ with_order p o
    half_left =
        let wholes = cond-false (order_fits (room p) o) (o ∷ whole_orders (room p - size) os) [] h in
        let halves = cond-false (order_fits (room p) o) (half_order (room p - size) os) (fitted_fields (room p) o) h in
        page_eq _ _ _ _
        (ap (λ ws. put_at p.bytes p.mark (register_bytes ws ++ half_order (room p) (o ∷ os))) wholes
        ∙ ap (put_at p.bytes p.mark) halves)
        (ap (λ ws. p.mark + length (register_bytes ws)) wholes ∙ add-zero p.mark)
        ∙ sym (cond-false (order_fits (room p) o) (record { bytes = put_at p.bytes p.mark (order_bytes o); mark = p.mark + size }) (record { bytes = put_at p.bytes p.mark (fitted_fields (room p) o); mark = p.mark }) h)
