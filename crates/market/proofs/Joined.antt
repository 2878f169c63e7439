-- Rows side by side: their orders are those of both parts, and a row above the newest number keeps the numbers ascending. By
-- induction over the first part. Cite: orders_in_append, orders_in_one, rising_push.
use Rattle.std.proofs.Common.{◌≡◌, ℕ, ◌<◌, true, ltb, List, [], ◌∷◌, ◌++◌, sym, refl, ap, ◌∙◌, inl, inr}
use Rattle.std.proofs.lemmas.Bool.{lt-ltb, and_parts, and_from, cases_Bool}
use Rattle.market.specs.declared.table.Row.{Row}
use Rattle.market.specs.Rows.{row_order, rising, rests, orders_in}
use Rattle.market.specs.Changes.{newest_number}
use Rattle.market.proofs.Found.{orders_in_resting, orders_in_spent}

pub orders_in_none : orders_in [] ≡ []
unfolding orders_in
orders_in_none = refl

pub orders_in_append : (xs ys : List Row) → orders_in (xs ++ ys) ≡ orders_in xs ++ orders_in ys
orders_in_append [] ys = ap (λ os. os ++ orders_in ys) (sym orders_in_none)
orders_in_append (x ∷ xs) ys =
    let rest = orders_in_append xs ys in
    elim (cases_Bool (rests x)) [
      | inl t ↦ orders_in_resting x (xs ++ ys) t ∙ ap (λ os. row_order x ∷ os) rest ∙ ap (λ os. os ++ orders_in ys) (sym (orders_in_resting x xs t))
      | inr t ↦ orders_in_spent x (xs ++ ys) t ∙ rest ∙ ap (λ os. os ++ orders_in ys) (sym (orders_in_spent x xs t))
    ]

pub orders_in_one : (r : Row) → rests r ≡ true → orders_in (r ∷ []) ≡ row_order r ∷ []
orders_in_one r t = orders_in_resting r [] t ∙ ap (λ os. row_order r ∷ os) orders_in_none

pub rising_push : (low : ℕ) (rs : List Row) (r : Row) → rising low rs ≡ true → newest_number low rs < r.number → rising low (rs ++ r ∷ []) ≡ true
rising_push low [] r up lt = and_from (ltb low r.number) true (lt-ltb low r.number lt) refl
rising_push low (x ∷ rs) r up lt =
    let parts = and_parts (ltb low x.number) (rising x.number rs) up in
    and_from (ltb low x.number) (rising x.number (rs ++ r ∷ [])) parts.0 (rising_push x.number rs r parts.1 lt)
