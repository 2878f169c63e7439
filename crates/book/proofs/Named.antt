-- The directory's answer and the rule book's: an identifier names the row that it names among the orders, if all rows rest.
-- Cite found_none, found_some, distinct_names and has_pairs.
use Rattle.std.proofs.Common.{◌≡◌, ℕ, ◌<◌, true, false, eqb, ltb, ◌⊎◌, List, [], ◌∷◌, length, map, Some, None, Option, sym, refl, ap, ◌∙◌, subst, inl, inr, arith}
use Rattle.std.specs.Option.{option_map}
use Rattle.std.specs.Str.{bytes_eq}
use Rattle.std.proofs.lemmas.Bool.{cases_Bool, and_parts, ltb-true, ne_eqb, eq-eqb}
use Rattle.rules.specs.Market.{Order, resting}
use Rattle.rules.specs.Calls.{named}
use Rattle.rules.proofs.Cases.{if_true, if_false}
use Rattle.market.specs.declared.table.Row.{Row}
use Rattle.market.specs.Rows.{row_order, rising, orders_in}
use Rattle.market.specs.Changes.{AllRest}
use Rattle.book.specs.Tied.{Apart, Tied, row_name, number_named}
use Rattle.book.specs.Closing.{DistinctNames, HasPairsOf}

-- the order that an identifier names, with its number, which no other order has
pub record Found (id : List ℕ) (k : ℕ) (os : List Order) : Type 0 where
  pub order : Order
  pub names : named id os ≡ Some order
  pub number : order.number ≡ k
  pub rests : resting k os ≡ Some order

module _ (id : List ℕ) where
  none_named : (rs : List Row) → number_named id rs ≡ None → named id (map row_order rs) ≡ None
  unfolding number_named named
  none_named [] e = refl
  none_named (r ∷ rs) e = by (cases_Bool (bytes_eq id (row_name r))) (none_named rs)
    where
      by : (bytes_eq id (row_name r) ≡ true) ⊎ (bytes_eq id (row_name r) ≡ false) → (number_named id rs ≡ None → named id (map row_order rs) ≡ None) → named id (map row_order (r ∷ rs)) ≡ None
      by (inl h) ih =
          let some : Some r.number ≡ None = sym (if_true (bytes_eq id (row_name r)) (Some r.number) (number_named id rs) h) ∙ e in
          absurd (let z : ◌≡◌ {A = ℕ} 0 1 = cc in omega arith)
      by (inr h) ih =
          if_false (bytes_eq id (row_name r)) (Some (row_order r)) (named id (map row_order rs)) h
          ∙ ih (sym (if_false (bytes_eq id (row_name r)) (Some r.number) (number_named id rs) h) ∙ e)

  some_named : (low : ℕ) (rs : List Row) (k : ℕ) → rising low rs ≡ true → number_named id rs ≡ Some k → Found id k (map row_order rs) × (low < k)
  unfolding number_named named resting
  some_named low [] k up e = absurd (let z : ◌≡◌ {A = ℕ} 0 1 = cc in omega arith)
  some_named low (r ∷ rs) k up e = by (cases_Bool (bytes_eq id (row_name r))) (some_named r.number rs k (and_parts _ _ up).1)
    where
      first : low < r.number
      first = ltb-true low r.number (and_parts (ltb low r.number) (rising r.number rs) up).0

      by : (bytes_eq id (row_name r) ≡ true) ⊎ (bytes_eq id (row_name r) ≡ false) → (number_named id rs ≡ Some k → Found id k (map row_order rs) × (r.number < k)) → Found id k (map row_order (r ∷ rs)) × (low < k)
      by (inl h) ih =
          let same : Some r.number ≡ Some k = sym (if_true (bytes_eq id (row_name r)) (Some r.number) (number_named id rs) h) ∙ e in
          let k_is : r.number ≡ k = cc in (
            record {
              order = row_order r;
              names = if_true (bytes_eq id (row_name r)) (Some (row_order r)) (named id (map row_order rs)) h;
              number = k_is;
              rests = if_true (eqb r.number k) (Some (row_order r)) (resting k (map row_order rs)) (eq-eqb r.number k k_is);
            },
            omega (arith, first, k_is),
          )
      by (inr h) ih =
          let found = ih (sym (if_false (bytes_eq id (row_name r)) (Some r.number) (number_named id rs) h) ∙ e) in (
            record {
              order = found.0.order;
              names = if_false (bytes_eq id (row_name r)) (Some (row_order r)) (named id (map row_order rs)) h ∙ found.0.names;
              number = found.0.number;
              rests = if_false (eqb r.number k) (Some (row_order r)) (resting k (map row_order rs)) (ne_eqb r.number k (λ q. omega (arith, q, found.1))) ∙ found.0.rests;
            },
            omega (arith, first, found.1),
          )

  pub found_none : (rs : List Row) → AllRest rs → number_named id rs ≡ None → named id (orders_in rs) ≡ None
  found_none rs all e = ap (named id) (sym all.orders) ∙ none_named rs e

  pub found_some : (rs : List Row) (k : ℕ) → AllRest rs → rising 0 rs ≡ true → number_named id rs ≡ Some k → Found id k (orders_in rs)
  found_some rs k all up e = subst (Found id k) all.orders (some_named 0 rs k up e).0

  -- the number that an identifier names among the rows is that of the order that it names
  number_of_named : (rs : List Row) → number_named id rs ≡ option_map (λ (o : Order). o.number) (named id (map row_order rs))
  unfolding number_named named
  number_of_named [] = refl
  number_of_named (r ∷ rs) = by (cases_Bool (bytes_eq id (row_name r))) (number_of_named rs)
    where
      by : (bytes_eq id (row_name r) ≡ true) ⊎ (bytes_eq id (row_name r) ≡ false)
          → number_named id rs ≡ option_map (λ (o : Order). o.number) (named id (map row_order rs))
          → number_named id (r ∷ rs) ≡ option_map (λ (o : Order). o.number) (named id (map row_order (r ∷ rs)))
      by (inl h) ih =
          if_true (bytes_eq id (row_name r)) (Some r.number) (number_named id rs) h
          ∙ sym (ap (option_map (λ (o : Order). o.number)) (if_true (bytes_eq id (row_name r)) (Some (row_order r)) (named id (map row_order rs)) h))
      by (inr h) ih =
          if_false (bytes_eq id (row_name r)) (Some r.number) (number_named id rs) h
          ∙ ih
          ∙ sym (ap (option_map (λ (o : Order). o.number)) (if_false (bytes_eq id (row_name r)) (Some (row_order r)) (named id (map row_order rs)) h))

distinct_orders : (rs : List Row) → Apart rs → DistinctNames (map row_order rs)
distinct_orders [] a = tt
distinct_orders (r ∷ rs) a = (none_named (row_name r) rs a.0, distinct_orders rs a.1)

-- the resting orders have names of their own
pub distinct_names : (rs : List Row) → Apart rs → AllRest rs → DistinctNames (orders_in rs)
distinct_names rs a all = subst DistinctNames all.orders (distinct_orders rs a)

length_mapped : (rs : List Row) → length (map row_order rs) ≡ length rs
length_mapped [] = refl
length_mapped (r ∷ rs) = let e = length_mapped rs in omega (arith, e)

pub has_pairs : (number : List ℕ → Option ℕ) (count : ℕ) (rs : List Row) → Tied number count rs → AllRest rs → HasPairsOf (orders_in rs) number count
has_pairs number count rs tied all =
    subst (λ os. HasPairsOf os number count) all.orders
    (record { known = λ id. tied.known id ∙ number_of_named id rs; counted = tied.counted ∙ sym (length_mapped rs) })
