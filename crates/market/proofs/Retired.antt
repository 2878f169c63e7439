-- A row that rests no more can be dropped: the orders stay, and so do ascending numbers. By induction over the rows before it.
-- Cite: orders_in_dropped, rising_dropped for the row between two parts; first_spent for the first row that rests no more;
-- rests_pushed and rests_front for rows that all rest.
use Rattle.std.proofs.Common.{◌≡◌, ℕ, suc, ◌<◌, ◌≤◌, Bool, true, false, not, ltb, List, [], ◌∷◌, ◌++◌, map, length, get_or, take, drop, inl, inr, sym, refl, ap, ◌∙◌, arith, drop-cons, MatchOption}
use Rattle.std.proofs.lemmas.List.{length-map, map-append, take-append-drop}
use Rattle.std.proofs.lemmas.Bool.{ltb-true, lt-ltb, and_parts, and_from, cases_Bool}
use Rattle.std.specs.List.{remove, position}
use Rattle.market.specs.declared.table.Row.{Row}
use Rattle.market.specs.Rows.{row_order, rising, rests, orders_in}
use Rattle.market.specs.Changes.{AllRest, FirstSpent, Retired}
use Rattle.market.proofs.Found.{orders_in_resting, orders_in_spent, resting_few, first}
use Rattle.market.proofs.Joined.{orders_in_append, orders_in_none, orders_in_one}

pub orders_in_dropped : (xs : List Row) (r : Row) (ys : List Row) → rests r ≡ false → orders_in (xs ++ ys) ≡ orders_in (xs ++ r ∷ ys)
orders_in_dropped xs r ys f =
    orders_in_append xs ys ∙ ap (λ os. orders_in xs ++ os) (sym (orders_in_spent r ys f)) ∙ sym (orders_in_append xs (r ∷ ys))

rising_lower : (low high : ℕ) (rs : List Row) → low ≤ high → rising high rs ≡ true → rising low rs ≡ true
rising_lower low high [] le up = refl
rising_lower low high (r ∷ rs) le up =
    let parts = and_parts (ltb high r.number) (rising r.number rs) up in
    let above : high < r.number = ltb-true high r.number parts.0 in
    and_from (ltb low r.number) (rising r.number rs) (lt-ltb low r.number (omega arith)) parts.1

pub rising_dropped : (low : ℕ) (xs : List Row) (r : Row) (ys : List Row) → rising low (xs ++ r ∷ ys) ≡ true → rising low (xs ++ ys) ≡ true
rising_dropped low [] r ys up =
    let parts = and_parts (ltb low r.number) (rising r.number ys) up in
    let above : low < r.number = ltb-true low r.number parts.0 in
    rising_lower low r.number ys (omega arith) parts.1
rising_dropped low (x ∷ xs) r ys up =
    let parts = and_parts (ltb low x.number) (rising x.number (xs ++ r ∷ ys)) up in
    and_from (ltb low x.number) (rising x.number (xs ++ ys)) parts.0 (rising_dropped x.number xs r ys parts.1)

all_rest : (rs : List Row) → map row_order rs ≡ orders_in rs → AllRest rs
all_rest rs e = record { orders = e; count = sym (length-map rs row_order) ∙ ap length e }

pub rests_none : AllRest []
rests_none = all_rest [] (sym orders_in_none)

rests_too : (r : Row) (rs : List Row) → rests r ≡ true → AllRest rs → AllRest (r ∷ rs)
rests_too r rs t all = all_rest (r ∷ rs) (ap (λ os. row_order r ∷ os) all.orders ∙ sym (orders_in_resting r rs t))

rests_apart : (r : Row) (rs : List Row) → AllRest (r ∷ rs) → (rests r ≡ true) × AllRest rs
rests_apart r rs all =
    elim (cases_Bool (rests r)) [
      | inl t ↦ (t, all_rest rs (ap (drop 1) (all.orders ∙ orders_in_resting r rs t)))
      | inr f ↦ absurd (omega (arith, all.count, ap length (orders_in_spent r rs f), resting_few rs))
    ]

-- a row that rests joins rows that all rest
pub rests_pushed : (rs : List Row) (r : Row) → rests r ≡ true → AllRest rs → AllRest (rs ++ r ∷ [])
rests_pushed rs r t all =
    all_rest (rs ++ r ∷ [])
    (map-append row_order rs (r ∷ []) ∙ ap (λ os. os ++ row_order r ∷ []) all.orders ∙ ap (λ os. orders_in rs ++ os) (sym (orders_in_one r t)) ∙ sym (orders_in_append rs (r ∷ [])))

-- of rows that all rest, the first ones do
pub rests_front : (xs ys : List Row) → AllRest (xs ++ ys) → AllRest xs
rests_front [] ys all = rests_none
rests_front (x ∷ xs) ys all =
    let parts = rests_apart x (xs ++ ys) all in
    rests_too x xs parts.0 (rests_front xs ys parts.1)

pub first_spent : (rs : List Row) → MatchOption (position (λ r. not (rests r)) rs) (AllRest rs) (FirstSpent rs)
first_spent =
    first (λ r. not (rests r)) (λ rs i. FirstSpent rs i) AllRest
    (λ r rs t. record { within = omega arith; spent = λ d. not-true (rests r) t; first = rests_none })
    (λ r rs i f at. record { within = let lt = at.within in omega arith; spent = at.spent; first = rests_too r (take i rs) (not-false (rests r) f) at.first })
    rests_none
    (λ r rs f all. rests_too r rs (not-false (rests r) f) all)
  where
    not-true : (b : Bool) → not b ≡ true → b ≡ false
    not-true false e = refl
    not-true true e = cc

    not-false : (b : Bool) → not b ≡ false → b ≡ true
    not-false true e = refl
    not-false false e = cc

-- the rows about the one at i
pub parted : (rs : List Row) (i : ℕ) (r : Row) → i < length rs → r ≡ get_or rs i r → rs ≡ take i rs ++ r ∷ drop (suc i) rs
parted rs i r lt is =
    sym (take-append-drop i rs)
    ∙ ap (λ xs. take i rs ++ xs) (drop-cons rs i r lt)
    ∙ ap (λ x. take i rs ++ x ∷ drop (suc i) rs) (sym is)

-- what the first spent row leaves as it is dropped
pub retired : (rs : List Row) (i : ℕ) (r : Row) → FirstSpent rs i → r ≡ get_or rs i r → Retired rs (remove rs i) r.identifier
retired rs i r at is =
    record {
      earlier = take i rs;
      row = r;
      later = drop (suc i) rs;
      was = parted rs i r at.within is;
      is = refl;
      spent = ap rests is ∙ at.spent r;
      first = at.first;
      told = refl;
    }

pub retired_rising : (rs : List Row) (i : ℕ) (r : Row) → FirstSpent rs i → r ≡ get_or rs i r → rising 0 rs ≡ true → rising 0 (remove rs i) ≡ true
retired_rising rs i r at is up =
    rising_dropped 0 (take i rs) r (drop (suc i) rs) (ap (rising 0) (sym (parted rs i r at.within is)) ∙ up)

pub retired_orders : (rs : List Row) (i : ℕ) (r : Row) → FirstSpent rs i → r ≡ get_or rs i r → orders_in (remove rs i) ≡ orders_in rs
retired_orders rs i r at is =
    orders_in_dropped (take i rs) r (drop (suc i) rs) (ap rests is ∙ at.spent r) ∙ ap orders_in (sym (parted rs i r at.within is))
