-- A row that rests and has the entry number is what `resting` finds; any other row is passed over. By the definitions, one row
-- at a time. Cite: first for the first row that passes a test, it_rests for the row of an entry number, how_many for a count.
use Rattle.std.proofs.Common.{◌≡◌, ℕ, suc, ◌+◌, ◌<◌, ◌≤◌, Bool, true, false, cond, not, ◌&&◌, eqb, ltb, List, [], ◌∷◌, map, length, Some, None, sym, refl, ap, ◌∙◌, subst, arith, MatchOption}
use Rattle.std.specs.List.{filter, position, position_or_len}
use Rattle.std.proofs.lemmas.List.{length-map}
use Rattle.std.proofs.lemmas.Bool.{ltb-true, ltb-false, lt-ltb, eq-eqb, eqb-true, ne_eqb, and_parts, and_from, true≢false}
use Rattle.rules.specs.Market.{resting}
use Rattle.rules.proofs.Cases.{if_both, if_true, if_false}
use Rattle.market.specs.declared.table.Row.{Row}
use Rattle.market.specs.Rows.{row_order, rests, orders_in}
use Rattle.market.specs.Changes.{RestsAt}

pub orders_in_resting : (r : Row) (rs : List Row) → rests r ≡ true → orders_in (r ∷ rs) ≡ row_order r ∷ orders_in rs
unfolding orders_in
orders_in_resting r rs t = if_true (rests r) (row_order r ∷ orders_in rs) (orders_in rs) t

pub orders_in_spent : (r : Row) (rs : List Row) → rests r ≡ false → orders_in (r ∷ rs) ≡ orders_in rs
unfolding orders_in
orders_in_spent r rs t = if_false (rests r) (row_order r ∷ orders_in rs) (orders_in rs) t

pub passed_over : (k : ℕ) (r : Row) (rs : List Row) → (r.number ≡ k → 0 < r.left → ⊥) → resting k (orders_in (r ∷ rs)) ≡ resting k (orders_in rs)
unfolding orders_in resting
passed_over k r rs other =
    if_both (rests r) (row_order r ∷ orders_in rs) (orders_in rs) (λ os. resting k os ≡ resting k (orders_in rs))
    (λ t. if_false (eqb r.number k) (Some (row_order r)) (resting k (orders_in rs)) (ne_eqb r.number k (λ e. other e (ltb-true 0 r.left t))))
    (λ _. refl)

pub found_here : (k : ℕ) (r : Row) (rs : List Row) → r.number ≡ k → 0 < r.left → resting k (orders_in (r ∷ rs)) ≡ Some (row_order r)
unfolding resting
found_here k r rs e l =
    ap (resting k) (orders_in_resting r rs (lt-ltb 0 r.left l))
    ∙ if_true (eqb r.number k) (Some (row_order r)) (resting k (orders_in rs)) (eq-eqb r.number k e)

-- what holds of the first row that passes a test, and what holds where none does, one row at a time
module _ (p : Row → Bool) (Found : List Row → ℕ → Type 0) (Lost : List Row → Type 0) (here : (r : Row) (rs : List Row) → p r ≡ true → Found (r ∷ rs) 0) (later : (r : Row) (rs : List Row) (i : ℕ) → p r ≡ false → Found rs i → Found (r ∷ rs) (suc i)) (none : Lost []) (lost : (r : Row) (rs : List Row) → p r ≡ false → Lost rs → Lost (r ∷ rs)) where
  met : (rs : List Row) → position_or_len p rs < length rs → Found rs (position_or_len p rs)
  met [] lt = absurd (omega arith)
  met (r ∷ rs) lt = by (p r) refl (met rs) lt
    where
      by : (b : Bool) → p r ≡ b → (position_or_len p rs < length rs → Found rs (position_or_len p rs)) → cond (not b) (1 + position_or_len p rs) 0 < suc (length rs) → Found (r ∷ rs) (cond (not b) (1 + position_or_len p rs) 0)
      by true e rest lt = here r rs e
      by false e rest lt =
          let n : suc (position_or_len p rs) ≡ 1 + position_or_len p rs = omega arith in
          subst (Found (r ∷ rs)) n (later r rs (position_or_len p rs) e (rest (omega arith)))

  missed : (rs : List Row) → length rs ≤ position_or_len p rs → Lost rs
  missed [] le = none
  missed (r ∷ rs) le = by (p r) refl (missed rs) le
    where
      by : (b : Bool) → p r ≡ b → (length rs ≤ position_or_len p rs → Lost rs) → suc (length rs) ≤ cond (not b) (1 + position_or_len p rs) 0 → Lost (r ∷ rs)
      by true e rest le = absurd (omega arith)
      by false e rest le = lost r rs e (rest (omega arith))

  pub first : (rs : List Row) → MatchOption (position p rs) (Lost rs) (Found rs)
  first rs = by (ltb (position_or_len p rs) (length rs)) refl
    where
      by : (b : Bool) → ltb (position_or_len p rs) (length rs) ≡ b → MatchOption (cond b (Some (position_or_len p rs)) None) (Lost rs) (Found rs)
      by true e = met rs (ltb-true (position_or_len p rs) (length rs) e)
      by false e = missed rs (ltb-false (position_or_len p rs) (length rs) e)

-- the test of `index_of`
abbrev pub is_it : ℕ → Row → Bool
is_it k r = eqb r.number k && rests r

not_it : (k : ℕ) (r : Row) → is_it k r ≡ false → r.number ≡ k → 0 < r.left → ⊥
not_it k r f e l = true≢false (sym (and_from (eqb r.number k) (rests r) (eq-eqb r.number k e) (lt-ltb 0 r.left l)) ∙ f)

nothing : (k : ℕ) → resting k (orders_in []) ≡ None
unfolding orders_in resting
nothing k = refl

pub it_rests : (k : ℕ) (rs : List Row) → MatchOption (position (is_it k) rs) (resting k (orders_in rs) ≡ None) (RestsAt rs k)
it_rests k =
    first (is_it k) (λ rs i. RestsAt rs k i) (λ rs. resting k (orders_in rs) ≡ None) here later (nothing k)
    (λ r rs f none. passed_over k r rs (not_it k r f) ∙ none)
  where
    here : (r : Row) (rs : List Row) → is_it k r ≡ true → RestsAt (r ∷ rs) k 0
    here r rs t =
        let parts = and_parts (eqb r.number k) (rests r) t in
        let e : r.number ≡ k = eqb-true r.number k parts.0 in
        record {
          within = omega arith;
          number = λ d. e;
          rests = λ d. parts.1;
          order = λ d. found_here k r rs e (ltb-true 0 r.left parts.1);
        }

    later : (r : Row) (rs : List Row) (i : ℕ) → is_it k r ≡ false → RestsAt rs k i → RestsAt (r ∷ rs) k (suc i)
    later r rs i f at =
        record {
          within = let lt = at.within in omega arith;
          number = at.number;
          rests = at.rests;
          order = λ d. passed_over k r rs (not_it k r f) ∙ at.order d;
        }

-- How many rest

-- the orders are the rows that rest
pub orders_of : (rs : List Row) → map row_order (filter rests rs) ≡ orders_in rs
unfolding orders_in
orders_of [] = refl
orders_of (r ∷ rs) = by (rests r) (orders_of rs)
  where
    by : (b : Bool) → map row_order (filter rests rs) ≡ orders_in rs → map row_order (cond b (r ∷ filter rests rs) (filter rests rs)) ≡ cond b (row_order r ∷ orders_in rs) (orders_in rs)
    by true e = ap (λ os. row_order r ∷ os) e
    by false e = e

pub how_many : (rs : List Row) → length (filter rests rs) ≡ length (orders_in rs)
how_many rs = sym (length-map (filter rests rs) row_order) ∙ ap length (orders_of rs)

-- no more rest than stand
pub resting_few : (rs : List Row) → length (orders_in rs) ≤ length rs
unfolding orders_in
resting_few [] = omega arith
resting_few (r ∷ rs) =
    let few = resting_few rs in
    if_both (rests r) (row_order r ∷ orders_in rs) (orders_in rs) (λ os. length os ≤ suc (length rs)) (λ _. omega arith) (λ _. omega arith)
