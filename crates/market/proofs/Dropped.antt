-- The newest row can be dropped: it has the highest entry number, so that its order alone leaves. Cite: newest_gone for the
-- orders, rising_front for the ascending numbers.
use Rattle.std.proofs.Common.{◌≡◌, ℕ, ◌<◌, true, eqb, ltb, List, [], ◌∷◌, ◌++◌, Some, None, Option, sym, refl, ap, ◌∙◌, inl, inr, append-nil, arith}
use Rattle.std.proofs.lemmas.Bool.{ltb-true, eq-eqb, and_parts, and_from, cases_Bool}
use Rattle.std.specs.Option.{option_to_list}
use Rattle.rules.specs.Market.{Order, without}
use Rattle.rules.proofs.Cases.{if_true}
use Rattle.market.specs.declared.table.Row.{Row}
use Rattle.market.specs.Rows.{row_order, rising, rests, orders_in}
use Rattle.market.specs.Changes.{newest_number}
use Rattle.market.proofs.Found.{orders_in_resting, orders_in_spent}
use Rattle.market.proofs.Joined.{orders_in_none}
use Rattle.market.proofs.Changed.{without_by_number, passed}

pub newest_of_push : (low : ℕ) (xs : List Row) (r : Row) → newest_number low (xs ++ r ∷ []) ≡ r.number
newest_of_push low [] r = refl
newest_of_push low (x ∷ xs) r = newest_of_push x.number xs r

last_above : (low : ℕ) (xs : List Row) (r : Row) → rising low (xs ++ r ∷ []) ≡ true → low < r.number
last_above low [] r up = ltb-true low r.number (and_parts (ltb low r.number) true up).0
last_above low (x ∷ xs) r up =
    let parts = and_parts (ltb low x.number) (rising x.number (xs ++ r ∷ [])) up in
    let first : low < x.number = ltb-true low x.number parts.0 in
    let later : x.number < r.number = last_above x.number xs r parts.1 in
    omega arith

pub rising_front : (low : ℕ) (xs ys : List Row) → rising low (xs ++ ys) ≡ true → rising low xs ≡ true
rising_front low [] ys up = refl
rising_front low (x ∷ xs) ys up =
    let parts = and_parts (ltb low x.number) (rising x.number (xs ++ ys)) up in
    and_from (ltb low x.number) (rising x.number xs) parts.0 (rising_front x.number xs ys parts.1)

none_left : (k : ℕ) → without k [] ≡ []
unfolding without
none_left k = refl

own_left : (o : Order) → without o.number (o ∷ []) ≡ []
unfolding without
own_left o = if_true (eqb o.number o.number) [] (o ∷ []) (eq-eqb o.number o.number refl)

last_gone : (low : ℕ) (xs : List Row) (r : Row) → rising low (xs ++ r ∷ []) ≡ true → orders_in xs ≡ without r.number (orders_in (xs ++ r ∷ []))
last_gone low [] r up =
    orders_in_none
    ∙ elim (cases_Bool (rests r)) [
      | inl t ↦ sym (ap (without r.number) (orders_in_resting r [] t ∙ ap (λ os. row_order r ∷ os) orders_in_none) ∙ own_left (row_order r))
      | inr t ↦ sym (ap (without r.number) (orders_in_spent r [] t ∙ orders_in_none) ∙ none_left r.number)
    ]
last_gone low (x ∷ xs) r up =
    let parts = and_parts (ltb low x.number) (rising x.number (xs ++ r ∷ [])) up in
    let below : x.number < r.number = last_above x.number xs r parts.1 in
    passed r.number (without r.number) (without_by_number r.number) x (xs ++ r ∷ []) xs (λ e. omega arith) (last_gone x.number xs r parts.1)

-- what the last row leaves as it is dropped, where there is one
pub newest_gone : (rs after : List Row) (r : Option Row) → rising 0 rs ≡ true → rs ≡ after ++ option_to_list r → (r ≡ None → rs ≡ []) → orders_in after ≡ without (newest_number 0 rs) (orders_in rs)
newest_gone rs after None up e empty =
    let none : rs ≡ [] = empty refl in
    let same : after ≡ [] = cc (append-nil after) in
    ap orders_in same ∙ orders_in_none ∙ sym (ap (λ os. without (newest_number 0 rs) os) (ap orders_in none ∙ orders_in_none) ∙ none_left (newest_number 0 rs))
newest_gone rs after (Some r) up e empty =
    last_gone 0 after r (ap (rising 0) (sym e) ∙ up)
    ∙ ap (λ k. without k (orders_in (after ++ r ∷ []))) (sym (newest_of_push 0 after r))
    ∙ ap (λ xs. without (newest_number 0 xs) (orders_in xs)) (sym e)
