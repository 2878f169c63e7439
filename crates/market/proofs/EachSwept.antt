-- A round over the rows is the rule book's sweep of each order, as they rested when the round began: rows stay in their
-- places, a row that has no shares left is swept in vain, and only shares differ. Cite round_passes and round_sweeps.
use Rattle.std.proofs.Common.{◌≡◌, ℕ, zero, suc, ◌+◌, ◌<◌, ◌≤◌, Bool, true, false, eqb, ltb, leb, ◌⊎◌, List, [], ◌∷◌, length, get_or, drop, Some, None, Option, sym, refl, ap, ◌∙◌, inl, inr, arith}
use Rattle.terms.specs.Sides.{opposite}
use Rattle.terms.specs.Prices.{reach}
use Rattle.terms.specs.Terms.{OrderTerms}
use Rattle.terms.specs.Made.{terms_of}
use Rattle.std.proofs.lemmas.List.{get_or-map, get_or_default, length-map, drop_more}
use Rattle.std.proofs.lemmas.Bool.{cases_Bool, and_parts}
use Rattle.rules.specs.Market.{Order, Market, less, lowered, resting, lower, those, reach_in, period_runs}
use Rattle.rules.specs.Priority.{next_partner, partner_for}
use Rattle.rules.specs.Sweep.{lines, trade, sweep, sweep_each}
use Rattle.rules.proofs.Cases.{if_both, if_true, if_false}
use Rattle.rules.proofs.Lasting.{each_keep}
use Rattle.rules.proofs.Numbers.{rows_sweep}
use Rattle.market.specs.declared.table.Row.{Row}
use Rattle.market.specs.Rows.{row_order, rising, rests, orders_in}
use Rattle.market.specs.Changes.{with_left, SameButShares}
use Rattle.market.proofs.Found.{orders_in_resting, orders_in_spent, passed_over}
use Rattle.market.proofs.Changed.{above, none_below}
use Rattle.market.proofs.Lined.{lines_gone, trade_longer}

-- an order that is not there does not come back
still_absent : (k j n : ℕ) (os : List Order) → resting k os ≡ None → resting k (lower j n os) ≡ None
unfolding resting lower
still_absent k j n [] e = refl
still_absent k j n (o ∷ os) e = by (cases_Bool (eqb o.number k)) (still_absent k j n os)
  where
    by : (eqb o.number k ≡ true) ⊎ (eqb o.number k ≡ false) → (resting k os ≡ None → resting k (lower j n os) ≡ None) → resting k (lower j n (o ∷ os)) ≡ None
    by (inl h) ih =
        let some : Some o ≡ None = sym (if_true (eqb o.number k) (Some o) (resting k os) h) ∙ e in absurd (let z : ◌≡◌ {A = ℕ} 0 1 = cc in omega arith)
    by (inr h) ih =
        let rest = ih (sym (if_false (eqb o.number k) (Some o) (resting k os) h) ∙ e) in
        let passed = λ (x : Order) (f : eqb x.number k ≡ false). if_false (eqb x.number k) (Some x) (resting k (lower j n os)) f ∙ rest in
        if_both (eqb o.number j) (lowered n o (lower j n os)) (o ∷ lower j n os) (λ ps. resting k ps ≡ None)
        (λ _. if_both (leb o.left n) (lower j n os) (less n o ∷ lower j n os) (λ ps. resting k ps ≡ None) (λ _. rest) (λ _. passed (less n o) h))
        (λ _. passed o h)

pub absent_after : (k t : ℕ) (o : Order) (m : Market) → resting k m.orders ≡ None → resting k (sweep t o m).orders ≡ None
absent_after k t o m e = rows_sweep (λ os. resting k os ≡ None) (λ j n os h. still_absent k j n os h) t o m e

sweep_gone : (t : ℕ) (o : Order) (m : Market) → resting o.number m.orders ≡ None → sweep t o m ≡ m
unfolding sweep
sweep_gone t o m e = lines_gone t (reach_in m o) o (length m.orders) m e

pub each_longer : (t : ℕ) (os : List Order) (m : Market) → length m.tape ≤ length (sweep_each t os m).tape
each_longer t os m =
    each_keep (λ r. length m.tape ≤ length r.tape) t (λ p a x r h. omega (arith, h, trade_longer t p a x r)) os m (omega arith)

-- a sweep looks at the number and the terms of its order, and at nothing else of it
module _ (t : ℕ) (a b : Order) (number : a.number ≡ b.number) (terms : a.terms ≡ b.terms) where
  same_partner : (p : ℕ) (m : Market) → partner_for a p m ≡ partner_for b p m
  same_partner p m = ap (λ (w : OrderTerms). next_partner m (opposite w.side) p m.orders) terms

  same_row : (m : Market) → resting a.number m.orders ≡ resting b.number m.orders
  same_row m = ap (λ k. resting k m.orders) number

  module _ (p n : ℕ) (m : Market) (later : (r : Market) → lines n t p a r ≡ lines n t p b r) where
    with_partner : (row : Order) (x : Option Order) → elim x as (λ _. Market) [ None ↦ m | Some z ↦ lines n t p a (trade t p row z m) ] ≡ elim x as (λ _. Market) [ None ↦ m | Some z ↦ lines n t p b (trade t p row z m) ]
    with_partner row None = refl
    with_partner row (Some z) = later (trade t p row z m)

    with_row : (r x : Option Order) → elim r as (λ _. Market) [ None ↦ m | Some row ↦ elim x [ None ↦ m | Some z ↦ lines n t p a (trade t p row z m) ] ] ≡ elim r as (λ _. Market) [ None ↦ m | Some row ↦ elim x [ None ↦ m | Some z ↦ lines n t p b (trade t p row z m) ] ]
    with_row None x = refl
    with_row (Some row) x = with_partner row x

  same_lines : (p n : ℕ) (m : Market) → lines n t p a m ≡ lines n t p b m
  unfolding lines
  same_lines p zero m = refl
  same_lines p (suc n) m =
      with_row p n m (same_lines p n) (resting a.number m.orders) (partner_for a p m)
      ∙ ap (λ (x : Option Order). elim (resting a.number m.orders) as (λ _. Market) [ None ↦ m | Some row ↦ elim x [ None ↦ m | Some z ↦ lines n t p b (trade t p row z m) ] ]) (same_partner p m)
      ∙ ap (λ (r : Option Order). elim r as (λ _. Market) [ None ↦ m | Some row ↦ elim (partner_for b p m) [ None ↦ m | Some z ↦ lines n t p b (trade t p row z m) ] ]) (same_row m)

  same_sweep : (m : Market) → sweep t a m ≡ sweep t b m
  unfolding sweep reach_in
  same_sweep m =
      same_lines (reach_in m a) (length m.orders) m
      ∙ ap (λ (w : OrderTerms). lines (length m.orders) t (reach w (period_runs w.side m) m.bid m.offer) b m) terms

-- a row with no shares left names no order that rests
pub spent_absent : (low : ℕ) (rs : List Row) (i : ℕ) (d : Row) → rising low rs ≡ true → i < length rs → rests (get_or rs i d) ≡ false → resting (get_or rs i d).number (orders_in rs) ≡ None
spent_absent low [] i d up lt h = absurd (omega arith)
spent_absent low (r ∷ rs) zero d up lt h =
    ap (resting r.number) (orders_in_spent r rs h) ∙ none_below r.number r.number rs (and_parts _ _ up).1 (omega arith)
spent_absent low (r ∷ rs) (suc i) d up lt h =
    let parts = and_parts (ltb low r.number) (rising r.number rs) up in
    let later : r.number < (get_or rs i d).number = above r.number rs i d parts.1 (omega arith) in
    passed_over (get_or rs i d).number r rs (λ e _. omega (arith, e, later)) ∙ spent_absent r.number rs i d parts.1 (omega arith) h

-- the orders of a round from a row on, and from the next
module _ (f : Order → Bool) (rs : List Row) (i : ℕ) (r : Row) (lt : i < length rs) (at : r ≡ get_or rs i r) where
  from_here : those f (orders_in (drop i rs)) ≡ those f (orders_in (r ∷ drop (i + 1) rs))
  from_here = ap (λ xs. those f (orders_in xs)) (drop_more rs i r lt ∙ ap (λ z. z ∷ drop (i + 1) rs) (sym at))

  spent_here : rests r ≡ false → those f (orders_in (drop i rs)) ≡ those f (orders_in (drop (i + 1) rs))
  spent_here h = from_here ∙ ap (those f) (orders_in_spent r (drop (i + 1) rs) h)

  taken_here : rests r ≡ true → f (row_order r) ≡ true → those f (orders_in (drop i rs)) ≡ row_order r ∷ those f (orders_in (drop (i + 1) rs))
  unfolding those
  taken_here h k =
      from_here
      ∙ ap (those f) (orders_in_resting r (drop (i + 1) rs) h)
      ∙ if_true (f (row_order r)) (row_order r ∷ those f (orders_in (drop (i + 1) rs))) (those f (orders_in (drop (i + 1) rs))) k

  left_out_here : rests r ≡ true → f (row_order r) ≡ false → those f (orders_in (drop i rs)) ≡ those f (orders_in (drop (i + 1) rs))
  unfolding those
  left_out_here h k =
      from_here
      ∙ ap (those f) (orders_in_resting r (drop (i + 1) rs) h)
      ∙ if_false (f (row_order r)) (row_order r ∷ those f (orders_in (drop (i + 1) rs))) (those f (orders_in (drop (i + 1) rs))) k

-- One turn of a round that began with rows `rs`, at index i: `cur` is what stands there now, and f asks for terms alone.
module _ (f : Order → Bool) (asks_terms : (a b : Order) → a.terms ≡ b.terms → f a ≡ f b) (t : ℕ) (rs now : List Row) (i : ℕ) (cur : Row) (lt : i < length rs) (at : cur ≡ get_or now i cur) (same : SameButShares rs now) where
  long : length now ≡ length rs
  long = sym (length-map now (with_left 0)) ∙ ap length same ∙ length-map rs (with_left 0)

  was : Row
  was = get_or rs i cur

  was_at : was ≡ get_or rs i was
  unfolding was
  was_at = get_or_default rs i cur (get_or rs i cur) lt

  unlike : with_left 0 cur ≡ with_left 0 was
  unfolding was
  unlike =
      ap (with_left 0) at
      ∙ sym (get_or-map (with_left 0) now i cur cur (omega (arith, long)))
      ∙ ap (λ l. get_or l i cur) same
      ∙ get_or-map (with_left 0) rs i cur cur lt

  number : was.number ≡ cur.number
  number = sym (ap (λ (z : Row). z.number) unlike)

  terms : (row_order was).terms ≡ (row_order cur).terms
  terms = sym (ap (λ (z : Row). terms_of z.terms) unlike)

  pub round_passes : (m : Market) → f (row_order cur) ≡ false → sweep_each t (those f (orders_in (drop i rs))) m ≡ sweep_each t (those f (orders_in (drop (i + 1) rs))) m
  round_passes m no_test = ap (λ os. sweep_each t os m) (by (cases_Bool (rests was)))
    where
      by : (rests was ≡ true) ⊎ (rests was ≡ false) → those f (orders_in (drop i rs)) ≡ those f (orders_in (drop (i + 1) rs))
      by (inl h) = left_out_here f rs i was lt was_at h (asks_terms (row_order was) (row_order cur) terms ∙ no_test)
      by (inr h) = spent_here f rs i was lt was_at h

  pub round_sweeps : (m : Market) → rising 0 rs ≡ true → ((k : ℕ) → resting k (orders_in rs) ≡ None → resting k m.orders ≡ None) → f (row_order cur) ≡ true → sweep_each t (those f (orders_in (drop i rs))) m ≡ sweep_each t (those f (orders_in (drop (i + 1) rs))) (sweep t (row_order cur) m)
  unfolding sweep_each was
  round_sweeps m up gone test = by (cases_Bool (rests was))
    where
      by : (rests was ≡ true) ⊎ (rests was ≡ false) → sweep_each t (those f (orders_in (drop i rs))) m ≡ sweep_each t (those f (orders_in (drop (i + 1) rs))) (sweep t (row_order cur) m)
      by (inl h) =
          ap (λ os. sweep_each t os m) (taken_here f rs i was lt was_at h (asks_terms (row_order was) (row_order cur) terms ∙ test))
          ∙ ap (sweep_each t (those f (orders_in (drop (i + 1) rs)))) (same_sweep t (row_order was) (row_order cur) number terms m)
      by (inr h) =
          ap (λ os. sweep_each t os m) (spent_here f rs i was lt was_at h)
          ∙ ap (sweep_each t (those f (orders_in (drop (i + 1) rs))))
          (sym (sweep_gone t (row_order cur) m (ap (λ k. resting k m.orders) (sym number) ∙ gone was.number (spent_absent 0 rs i cur up lt h))))
