-- What holds of the resting orders after every run: their entry numbers ascend, each has shares left, and they are no
-- more than have a place. By one step for a lowered row, one for a row that leaves, one for a row that is entered.
-- Cite: rows_sweep, rows_settle for any fact of the rows that lowering keeps.
use Rattle.std.proofs.Common.{◌≡◌, ℕ, suc, ◌+◌, ◌-◌, ◌<◌, ◌≤◌, true, false, not, ◌&&◌, eqb, leb, ◌⊎◌, List, [], ◌∷◌, ◌++◌, length, None, sym, refl, ◌∙◌, subst, inl, inr, arith, length-append}
use Rattle.std.proofs.ByRecursion.{All-push, All-weaker}
use Rattle.std.proofs.lemmas.Bool.{leb-false, eqb-false, and_cases, true≢false}
use Rattle.std.specs.List.{AllByRecursion as Every}
use Rattle.terms.specs.Terms.{is_ioc}
use Rattle.terms.specs.declared.side.Side.{Side}
use Rattle.terms.specs.declared.side.Side.TheVariants.{Buy, Sell}
use Rattle.terms.specs.declared.time_in_force.TimeInForce.{TimeInForce}
use Rattle.terms.specs.declared.time_in_force.TimeInForce.TheVariants.{Rest, ImmediateOrCancel}
use Rattle.rules.specs.Answers.{Answer, entered, cancelled, quoted, ticked, refused}
use Rattle.rules.specs.Calls.{swept_in, joined, Call, quote, follows_quote, rested, done_at, entry, new_order, cancel, tick, Outcome, call, time_of}
use Rattle.rules.specs.Clock.{settle, end_period, protected_on, at_time}
use Rattle.rules.specs.Laws.{Ascending, NumbersAscend, Counted, EntriesCounted, NumberedFrom, NumberedInTurn, SharesRemain, OrdersWithinPlaces}
use Rattle.rules.specs.Limits.{most_entries, most_resting}
use Rattle.rules.specs.Market.{Order, lower, Market, those, with_end, without, Book, with_quote, less, lowered}
use Rattle.rules.specs.Questions.{why}
use Rattle.rules.specs.Runs.{run, opened}
use Rattle.rules.specs.Sweep.{trade, traded, sweep, sweep_each}
use Rattle.rules.proofs.Cases.{if_both}
use Rattle.rules.proofs.Lasting.{sweep_keep, each_keep, ends_keep, run_lasts, enter_ways, cancel_ways, run_keeps, at_time_entries, call_ways}
use Rattle.rules.proofs.Rows.{length_lower}
use Rattle.rules.proofs.Trade.{trade_orders, sweep_fewer, Fewer}

-- What lowering keeps, sweeps and settling keep

trade_rows : (Q : List Order → Type 0) → ((k n : ℕ) (os : List Order) → Q os → Q (lower k n os))
    → (t p : ℕ) (o x : Order) (m : Market) → Q m.orders → Q (trade t p o x m).orders
trade_rows Q step t p o x m h = subst Q (sym (trade_orders t p o x m)) (step o.number (traded o x) _ (step x.number (traded o x) m.orders h))

pub rows_sweep : (Q : List Order → Type 0) → ((k n : ℕ) (os : List Order) → Q os → Q (lower k n os))
    → (t : ℕ) (o : Order) (m : Market) → Q m.orders → Q (sweep t o m).orders
rows_sweep Q step t o m h = sweep_keep (λ r. Q r.orders) t (trade_rows Q step t) o m h

rows_each : (Q : List Order → Type 0) → ((k n : ℕ) (os : List Order) → Q os → Q (lower k n os))
    → (t : ℕ) (os : List Order) (m : Market) → Q m.orders → Q (sweep_each t os m).orders
rows_each Q step t os m h = each_keep (λ r. Q r.orders) t (trade_rows Q step t) os m h

pub rows_settle : (Q : List Order → Type 0) → ((k n : ℕ) (os : List Order) → Q os → Q (lower k n os)) → (t : ℕ) (m : Market)
    → Q m.orders → Q (settle t m).orders
unfolding settle end_period
rows_settle Q step t m h =
    ends_keep (λ r. Q r.orders) t
    (λ d r _ g. rows_each Q step d.1 (those (protected_on d.0) r.orders) (with_end d.0 None r) (same d.0 r g))
    (length m.orders + 2) m h
  where
    same : (s : Side) (r : Market) → Q r.orders → Q (with_end s None r).orders
    same Buy r g = g
    same Sell r g = g

rows_enter : (Q : List Order → Type 0) → ((k n : ℕ) (os : List Order) → Q os → Q (lower k n os))
    → (t : ℕ) (o : Order) (m : Market) → Q (m.orders ++ (o ∷ [])) → Q (swept_in t o m).orders
unfolding swept_in
rows_enter Q step t o m h = rows_sweep Q step t o (joined o m) h

-- Q n os: of the resting orders os of a book with n entries
record RowsLast (Q : ℕ → List Order → Type 0) : Type 0 where
  lower : (j k n : ℕ) (os : List Order) → Q j os → Q j (lower k n os)
  without : (j k : ℕ) (os : List Order) → Q j os → Q j (without k os)
  push : (j : ℕ) (o : Order) (os : List Order) → o.number ≡ j + 1 → o.left ≡ o.terms.shares → Q j os → Q (j + 1) (os ++ (o ∷ []))

rows_run : (Q : ℕ → List Order → Type 0) → RowsLast Q → Q 0 [] → (bid offer room : ℕ) (cs : List Call)
    → let b : Book = (run room cs (opened bid offer)).book in Q b.entries b.market.orders
rows_run Q l none bid offer room cs =
    run_lasts (λ t j m. Q j m.orders)
    (record {
      fewer = λ t j k m h. l.without j k m.orders h;
      enter = λ t j o m e f h. rows_enter (Q (j + 1)) (l.lower (j + 1)) t o m (l.push j o m.orders e f h);
      quote = λ t j bid offer m h. rows_each (Q j) (l.lower j) t (those follows_quote m.orders) (with_quote bid offer m) h;
    })
    (λ t j u m _ h. rows_settle (Q j) (l.lower j) u m h)
    room cs (opened bid offer) none

-- Entry numbers

lower_all : (P : Order → Type 0) → ((n : ℕ) (o : Order) → n < o.left → P o → P (less n o)) → (k n : ℕ) (os : List Order)
    → Every P os → Every P (lower k n os)
unfolding lower
lower_all P step k n [] h = h
lower_all P step k n (o ∷ os) h =
    let g = lower_all P step k n os h.1 in
    if_both (eqb o.number k) (lowered n o (lower k n os)) (o ∷ lower k n os) (Every P)
    (λ _. if_both (leb o.left n) (lower k n os) (less n o ∷ lower k n os) (Every P) (λ _. g)
    (λ e. (step n o (leb-false o.left n e) h.0, g)))
    (λ _. (h.0, g))

without_all : (P : Order → Type 0) (k : ℕ) (os : List Order) → Every P os → Every P (without k os)
unfolding without
without_all P k [] h = h
without_all P k (o ∷ os) h =
    let g = without_all P k os h.1 in
    if_both (eqb o.number k) (without k os) (o ∷ without k os) (Every P) (λ _. g) (λ _. (h.0, g))

ascending_from : (low lower_still : ℕ) (os : List Order) → lower_still ≤ low → Ascending low os → Ascending lower_still os
ascending_from low z [] l h = h
ascending_from low z (o ∷ os) l h = (omega (arith, h.0), h.1)

lower_ascending : (low k n : ℕ) (os : List Order) → Ascending low os → Ascending low (lower k n os)
unfolding lower
lower_ascending low k n [] h = h
lower_ascending low k n (o ∷ os) h =
    let g = lower_ascending o.number k n os h.1 in
    let d = ascending_from o.number low (lower k n os) (omega (arith, h.0)) g in
    if_both (eqb o.number k) (lowered n o (lower k n os)) (o ∷ lower k n os) (Ascending low)
    (λ _. if_both (leb o.left n) (lower k n os) (less n o ∷ lower k n os) (Ascending low) (λ _. d) (λ _. (h.0, g)))
    (λ _. (h.0, g))

without_ascending : (low k : ℕ) (os : List Order) → Ascending low os → Ascending low (without k os)
unfolding without
without_ascending low k [] h = h
without_ascending low k (o ∷ os) h =
    let g = without_ascending o.number k os h.1 in
    let d = ascending_from o.number low (without k os) (omega (arith, h.0)) g in
    if_both (eqb o.number k) (without k os) (o ∷ without k os) (Ascending low) (λ _. d) (λ _. (h.0, g))

push_ascending : (low n : ℕ) (o : Order) (os : List Order) → o.number ≡ n + 1 → low ≤ n → Every (λ x. x.number ≤ n) os
    → Ascending low os → Ascending low (os ++ (o ∷ []))
push_ascending low n o [] e l a h = (omega arith, tt)
push_ascending low n o (x ∷ xs) e l a h = (h.0, push_ascending x.number n o xs e a.0 a.1 h.1)

numbered : RowsLast (λ j os. Ascending 0 os × Every (λ o. o.number ≤ j) os)
numbered =
    record {
      lower = λ j k n os h. (lower_ascending 0 k n os h.0, lower_all (λ o. o.number ≤ j) (λ _ _ _ g. g) k n os h.1);
      without = λ j k os h. (without_ascending 0 k os h.0, without_all (λ o. o.number ≤ j) k os h.1);
      push = λ j o os e _ h. (
        push_ascending 0 j o os e (omega arith) h.1 h.0,
        All-push _ os o (All-weaker (λ (x : Order). x.number ≤ j) _ (λ x g. omega arith) os h.1) (omega arith),
      );
    }

rested_entries : (f : TimeInForce) (t k n : ℕ) (m : Market) → (rested f t k n m).book.entries ≡ k
rested_entries Rest t k n m = refl
rested_entries ImmediateOrCancel t k n m = refl

done_within : (c : Call) (b : Book) → b.entries ≤ most_entries → (done_at c b).book.entries ≤ most_entries
unfolding done_at
done_within (entry t id w) b h =
    enter_ways (λ r. r.book.entries ≤ most_entries) t id w b (λ _ _. h)
    (λ _ l. omega (arith, rested_entries w.time_in_force t (b.entries + 1) w.shares (swept_in t (new_order id w (b.entries + 1)) b.market)))
done_within (cancel t id) b h = cancel_ways (λ r. r.book.entries ≤ most_entries) t id b (λ _ _. h) (λ _. h)
done_within (quote t bid offer) b h = h
done_within (tick t) b h = h

pub numbers_ascend : NumbersAscend
numbers_ascend bid offer room cs =
    let h = rows_run _ numbered (tt, tt) bid offer room cs in (
      h.0,
      h.1,
      run_keeps (λ b. b.entries ≤ most_entries) (λ u b _ g. subst (λ n. n ≤ most_entries) (sym (at_time_entries u b)) g) (λ c b _ g. done_within c b g)
          room cs (opened bid offer) (omega arith),
    )

done_counted : (c : Call) (b : Book) → Counted (done_at c b).answer b.entries (done_at c b).book.entries
unfolding done_at
done_counted (entry t id w) b =
    enter_ways (λ r. Counted r.answer b.entries r.book.entries) t id w b (λ _ _. refl)
    (λ _ _. accepted w.time_in_force (swept_in t (new_order id w (b.entries + 1)) b.market))
  where
    accepted : (f : TimeInForce) (m : Market)
        → let r : Outcome = rested f t (b.entries + 1) w.shares m in Counted r.answer b.entries r.book.entries
    accepted Rest m = (refl, refl)
    accepted ImmediateOrCancel m = (refl, refl)
done_counted (cancel t id) b = cancel_ways (λ r. Counted r.answer b.entries r.book.entries) t id b (λ _ _. refl) (λ _. refl)
done_counted (quote t bid offer) b = refl
done_counted (tick t) b = refl

pub entries_counted : EntriesCounted
entries_counted free c b =
    call_ways (λ r. Counted r.answer b.entries r.book.entries) free c b (λ _ _. refl)
    (λ _. subst (λ n. Counted (done_at c (at_time (time_of c) b)).answer n (done_at c (at_time (time_of c) b)).book.entries) (at_time_entries (time_of c) b) (done_counted c (at_time (time_of c) b)))

numbered_more : (a : Answer) (before after : ℕ) (zs : List Answer) → Counted a before after → NumberedFrom (after + 1) zs
    → NumberedFrom (before + 1) (a ∷ zs)
numbered_more (entered number traded lapsed) n k zs c h = (c.0, subst (λ i. NumberedFrom (i + 1) zs) (c.1 ∙ c.0) h)
numbered_more (cancelled left) n k zs c h = subst (λ i. NumberedFrom (i + 1) zs) c h
numbered_more quoted n k zs c h = subst (λ i. NumberedFrom (i + 1) zs) c h
numbered_more ticked n k zs c h = subst (λ i. NumberedFrom (i + 1) zs) c h
numbered_more (refused why) n k zs c h = subst (λ i. NumberedFrom (i + 1) zs) c h

run_numbered : (room : ℕ) (cs : List Call) (b : Book) → NumberedFrom (b.entries + 1) (run room cs b).answers
unfolding run
run_numbered room [] b = tt
run_numbered room (c ∷ cs) b =
    let o : Outcome = call (room - length b.market.tape) c b in
    numbered_more o.answer b.entries o.book.entries _ (entries_counted _ c b) (run_numbered room cs o.book)

pub numbered_in_turn : NumberedInTurn
numbered_in_turn bid offer room cs = run_numbered room cs (opened bid offer)

-- Shares left

abbrev Remains : Order → Type 0
Remains o = (o.left ≤ o.terms.shares) × (1 ≤ o.terms.shares → 1 ≤ o.left)

remaining : RowsLast (λ _ os. Every Remains os)
remaining =
    record {
      lower = λ _ k n os h. lower_all Remains (λ n o l g. (omega (arith, g.0), λ _. omega arith)) k n os h;
      without = λ _ k os h. without_all Remains k os h;
      push = λ _ o os _ e h. All-push _ os o h (omega arith, λ l. omega arith);
    }

pub shares_remain : SharesRemain
shares_remain bid offer room cs = rows_run (λ _ os. Every Remains os) remaining tt bid offer room cs

-- Places

without_shorter : (k : ℕ) (os : List Order) → length (without k os) ≤ length os
unfolding without
without_shorter k [] = omega arith
without_shorter k (o ∷ os) =
    let h = without_shorter k os in
    if_both (eqb o.number k) (without k os) (o ∷ without k os) (λ r. length r ≤ suc (length os)) (λ _. omega arith) (λ _. omega arith)

-- without the entered order, no more rest than before
without_pushed : (k : ℕ) (o : Order) (os : List Order) → o.number ≡ k → length (without k (os ++ (o ∷ []))) ≤ length os
unfolding without
without_pushed k o [] e =
    if_both (eqb o.number k) [] (o ∷ []) (λ r. length r ≤ 0) (λ _. omega arith) (λ f. absurd (eqb-false o.number k f e))
without_pushed k o (x ∷ xs) e =
    let h = without_pushed k o xs e in
    if_both (eqb x.number k) (without k (xs ++ (o ∷ []))) (x ∷ without k (xs ++ (o ∷ []))) (λ r. length r ≤ suc (length xs)) (λ _. omega arith) (λ _. omega arith)

-- an entered order that lapses leaves no more orders than there were
lapsed_within : (t k : ℕ) (o : Order) (m : Market) → o.number ≡ k → length (without k (swept_in t o m).orders) ≤ length m.orders
unfolding swept_in
lapsed_within t k o m e = by_lines (sweep_fewer t o (joined o m))
  where
    by_lines : Fewer (joined o m) (sweep t o (joined o m)) → length (without k (sweep t o (joined o m)).orders) ≤ length m.orders
    by_lines (inl f) = subst (λ (r : Market). length (without k r.orders) ≤ length m.orders) (sym f) (without_pushed k o m.orders e)
    by_lines (inr l) = omega (arith, without_shorter k (sweep t o (joined o m)).orders, length-append m.orders (o ∷ []))

lower_within : (n : ℕ) (j k : ℕ) (os : List Order) → length os ≤ n → length (lower j k os) ≤ n
lower_within n j k os h = omega (arith, length_lower j k os)

entered_within : (f : TimeInForce) (t n : ℕ) (o : Order) (m : Market)
    → (leb most_resting (length m.orders) && not (is_ioc f)) ≡ false → length m.orders ≤ most_resting
    → length (rested f t o.number n (swept_in t o m)).book.market.orders ≤ most_resting
entered_within ImmediateOrCancel t n o m e h = omega (arith, lapsed_within t o.number o m refl)
entered_within Rest t n o m e h =
    rows_enter (λ os. length os ≤ most_resting) (lower_within most_resting) t o m
    (omega (arith, length-append m.orders (o ∷ []), free (and_cases (leb most_resting (length m.orders)) true e)))
  where
    free : ((leb most_resting (length m.orders) ≡ false) ⊎ (true ≡ false)) → length m.orders < most_resting
    free (inl f) = leb-false most_resting (length m.orders) f
    free (inr f) = absurd (true≢false f)

done_places : (c : Call) (b : Book) → length b.market.orders ≤ most_resting → length (done_at c b).book.market.orders ≤ most_resting
unfolding done_at
done_places (entry t id w) b h =
    enter_ways (λ r. length r.book.market.orders ≤ most_resting) t id w b (λ _ _. h)
    (λ e _. entered_within w.time_in_force t w.shares (new_order id w (b.entries + 1)) b.market e h)
done_places (cancel t id) b h =
    cancel_ways (λ r. length r.book.market.orders ≤ most_resting) t id b (λ _ _. h)
    (λ o. omega (arith, without_shorter o.number b.market.orders))
done_places (quote t bid offer) b h =
    rows_each (λ os. length os ≤ most_resting) (lower_within most_resting) t (those follows_quote b.market.orders) (with_quote bid offer b.market) h
done_places (tick t) b h = h

settled_places : (u : ℕ) (b : Book) → length b.market.orders ≤ most_resting → length (at_time u b).market.orders ≤ most_resting
unfolding at_time
settled_places u b h = rows_settle (λ os. length os ≤ most_resting) (lower_within most_resting) u b.market h

pub orders_within_places : OrdersWithinPlaces
orders_within_places bid offer room cs =
    run_keeps (λ b. length b.market.orders ≤ most_resting) (λ u b _ h. settled_places u b h) (λ c b _ h. done_places c b h) room cs (opened bid offer) (omega arith)
