-- However many orders rest before a call, it writes no more lines than that. Each line ends a row, so lines and rows
-- together never become more; an entry adds a row for itself, and its sweep leaves a row or writes one line fewer, since
-- partners are two. Cite lines_within_orders.
use Rattle.std.proofs.Common.{◌≡◌, ℕ, ◌+◌, ◌<◌, ◌≤◌, Bool, true, false, ◌⊎◌, List, [], ◌∷◌, ◌++◌, length, Some, None, sym, refl, ap, ◌∙◌, inl, inr, arith, length-append}
use Rattle.std.proofs.lemmas.Bool.{cases_lt}
use Rattle.terms.specs.Sides.{opposite}
use Rattle.terms.specs.Terms.{OrderTerms}
use Rattle.terms.specs.declared.side.Side.{Side}
use Rattle.terms.specs.declared.side.Side.TheVariants.{Buy, Sell}
use Rattle.terms.specs.declared.time_in_force.TimeInForce.{TimeInForce}
use Rattle.terms.specs.declared.time_in_force.TimeInForce.TheVariants.{ImmediateOrCancel, Rest}
use Rattle.rules.specs.Calls.{swept_in, joined, rested, Call, done_at, call, entry, new_order, cancel, quote, follows_quote, tick, time_of}
use Rattle.rules.specs.Clock.{end_period, protected_on, settle, at_time}
use Rattle.rules.specs.Market.{Market, Order, side_of, lower, with_orders, resting, reach_in, those, with_end, Book, with_quote}
use Rattle.rules.specs.Priority.{line_price, partner_for}
use Rattle.rules.specs.Runs.{run, opened}
use Rattle.rules.specs.Sweep.{recorded, trade, depletes, traded, after_trade, lines, sweep, sweep_each}
use Rattle.rules.proofs.Apart.{Agree, agree_calm}
use Rattle.rules.proofs.Calm.{trade_calm}
use Rattle.rules.proofs.Lasting.{lines_keep, ends_keep, enter_ways, cancel_ways, call_ways}
use Rattle.rules.proofs.Members.{In, in_push}
use Rattle.rules.proofs.Rows.{resting_in}
use Rattle.rules.proofs.Sides.{not_opposite}
use Rattle.rules.proofs.Trade.{trade_shorter, partner_rests}
use Rattle.rules.proofs.Uncrossed.{Orderly, settle_orderly, run_orderly}

-- lines written and rows left
abbrev pub tally : Market → ℕ
tally m = length m.tape + length m.orders

recorded_tape : (b : Bool) (t q : ℕ) (o x : Order) (m : Market) (z : Side) → side_of x ≡ z
    → length (recorded b t q o x m).tape ≡ length m.tape + 1
recorded_tape false t q o x m z e = length-append m.tape _
recorded_tape true t q o x m Buy e = rw e (length-append m.tape _)
recorded_tape true t q o x m Sell e = rw e (length-append m.tape _)

trade_tape : (t p : ℕ) (o x : Order) (m : Market) → length (trade t p o x m).tape ≡ length m.tape + 1
unfolding trade
trade_tape t p o x m =
    recorded_tape (depletes m x (lower x.number (traded o x) m.orders)) t (line_price m p x) o x (with_orders (after_trade o x m.orders) m) (side_of x) refl

lines_tally : (t p : ℕ) (o : Order) (n : ℕ) (m : Market) → tally (lines n t p o m) ≤ tally m
lines_tally t p o n m =
    lines_keep (λ r. tally r ≤ tally m) t p o
    (λ r row x e f h. omega (arith, trade_tape t p row x r, trade_shorter t p row x r (resting_in o.number r.orders row e).0 (partner_rests o p r x f).0))
    n m (omega arith)

sweep_tally : (t : ℕ) (o : Order) (m : Market) → tally (sweep t o m) ≤ tally m
unfolding sweep
sweep_tally t o m = lines_tally t (reach_in m o) o (length m.orders) m

each_tally : (t : ℕ) (os : List Order) (m : Market) → tally (sweep_each t os m) ≤ tally m
unfolding sweep_each
each_tally t [] m = omega arith
each_tally t (o ∷ os) m = omega (arith, each_tally t os (sweep t o m), sweep_tally t o m)

end_tally : (d : Side × ℕ) (m : Market) → tally (end_period d m) ≤ tally m
unfolding end_period
end_tally d m = omega (arith, each_tally d.1 (those (protected_on d.0) m.orders) (with_end d.0 None m), same d.0)
  where
    same : (s : Side) → tally (with_end s None m) ≡ tally m
    same Buy = refl
    same Sell = refl

pub settle_tally : (t : ℕ) (m : Market) → tally (settle t m) ≤ tally m
unfolding settle
settle_tally t m = ends_keep (λ r. tally r ≤ tally m) t (λ d r _ h. omega (arith, end_tally d r)) (length m.orders + 2) m (omega arith)

some_row : (os : List Order) (x : Order) → In x os → 1 ≤ length os
some_row [] x i = absurd i
some_row (o ∷ os) x i = omega arith

-- two orders of different sides are two rows
two_rows : (os : List Order) (x y : Order) → In x os → In y os → (x ≡ y → ⊥) → 2 ≤ length os
two_rows [] x y i j d = absurd i
two_rows (o ∷ os) x y (inl i) (inl j) d = absurd (d (i ∙ sym j))
two_rows (o ∷ os) x y (inl i) (inr j) d = omega (arith, some_row os y j)
two_rows (o ∷ os) x y (inr i) j d = omega (arith, some_row os x i)

-- a row is left, or one line fewer was written
record Spare (top : ℕ) (o : Order) (r : Market) : Type 0 where
  within : tally r ≤ top
  agree : Agree r.orders o
  spare : (1 ≤ length r.orders) ⊎ (tally r + 1 ≤ top)

spare_step : (top t p : ℕ) (o row x : Order) (r : Market) → resting o.number r.orders ≡ Some row
    → partner_for o p r ≡ Some x → Spare top o r → Spare top o (trade t p row x r)
spare_step top t p o row x r e f h =
    record {
      within = omega (arith, trade_tape t p row x r, shorter, h.within);
      agree = agree_calm r (trade t p row x r) (trade_calm t p row x r) o h.agree;
      spare = left (cases_lt 0 (length (trade t p row x r).orders));
    }
  where
    found : In row r.orders × (row.number ≡ o.number)
    found = resting_in o.number r.orders row e

    rests : In x r.orders × (side_of x ≡ opposite (side_of o))
    rests = partner_rests o p r x f

    shorter : length (trade t p row x r).orders < length r.orders
    shorter = trade_shorter t p row x r found.0 rests.0

    two : 2 ≤ length r.orders
    two = two_rows r.orders row x found.0 rests.0
        (λ q. not_opposite (side_of o) (sym (ap (λ (w : OrderTerms). w.side) (h.agree row found.0 found.1)) ∙ ap (λ (z : Order). side_of z) q ∙ rests.1))

    left : ((0 < length (trade t p row x r).orders) ⊎ (length (trade t p row x r).orders ≤ 0))
        → (1 ≤ length (trade t p row x r).orders) ⊎ (tally (trade t p row x r) + 1 ≤ top)
    left (inl k) = inl k
    left (inr k) = inr (omega (arith, trade_tape t p row x r, two, h.within))

-- the lines of an entry's own sweep
enter_tape : (n t : ℕ) (o : Order) (m : Market) → o.number ≡ n + 1 → Orderly n m → length (swept_in t o m).tape ≤ tally m
unfolding swept_in sweep
enter_tape n t o m e g = done (lines_keep (Spare (tally (joined o m)) o) t p o (λ r row x a b h. spare_step _ t p o row x r a b h) (length (joined o m).orders) (joined o m) start)
  where
    p : ℕ
    p = reach_in (joined o m) o

    size : length (m.orders ++ (o ∷ [])) ≡ length m.orders + 1
    size = length-append m.orders (o ∷ [])

    agree_new : (x : Order) → (In x m.orders ⊎ (x ≡ o)) → x.number ≡ o.number → x.terms ≡ o.terms
    agree_new x (inl i) q = absurd (omega (arith, g.few x i))
    agree_new x (inr i) q = ap (λ (z : Order). z.terms) i

    start : Spare (tally (joined o m)) o (joined o m)
    start = record { within = omega arith; agree = λ x i. agree_new x (in_push m.orders o x i); spare = inl (omega (arith, size)) }

    done : Spare (tally (joined o m)) o (lines (length (joined o m).orders) t p o (joined o m))
        → length (lines (length (joined o m).orders) t p o (joined o m)).tape ≤ tally m
    done h = omega (arith, h.within, h.spare, size)

rested_tape : (i : TimeInForce) (t k n : ℕ) (m : Market) → (rested i t k n m).book.market.tape ≡ m.tape
rested_tape ImmediateOrCancel t k n m = refl
rested_tape Rest t k n m = refl

done_tape : (c : Call) (b : Book) → Orderly b.entries b.market → length (done_at c b).book.market.tape ≤ tally b.market
unfolding done_at
done_tape (entry t id w) b h =
    enter_ways (λ r. length r.book.market.tape ≤ tally b.market) t id w b (λ _ _. omega arith)
    (λ _ _. let o : Order = new_order id w (b.entries + 1) in
    omega (arith, ap length (rested_tape w.time_in_force t (b.entries + 1) w.shares (swept_in t o b.market)), enter_tape b.entries t o b.market refl h))
done_tape (cancel t id) b h =
    cancel_ways (λ r. length r.book.market.tape ≤ tally b.market) t id b (λ _ _. omega arith) (λ o. omega arith)
done_tape (quote t bid offer) b h = omega (arith, each_tally t (those follows_quote b.market.orders) (with_quote bid offer b.market))
done_tape (tick t) b h = omega arith

at_time_tape : (u : ℕ) (c : Call) (b : Book) → Orderly b.entries b.market
    → length (done_at c (at_time u b)).book.market.tape ≤ tally b.market
unfolding at_time
at_time_tape u c b h =
    omega (arith, done_tape c (record { market = settle u b.market; clock = u; entries = b.entries }) (settle_orderly b.entries u b.market h), settle_tally u b.market)

pub lines_within_orders : (bid offer room free : ℕ) (cs : List Call) (c : Call)
    → let b : Book = (run room cs (opened bid offer)).book in
    length (call free c b).book.market.tape ≤ length b.market.tape + length b.market.orders
lines_within_orders bid offer room free cs c =
    let b : Book = (run room cs (opened bid offer)).book in
    call_ways (λ r. length r.book.market.tape ≤ tally b.market) free c b (λ _ _. omega arith)
    (λ _. at_time_tape (time_of c) c b (run_orderly bid offer room cs))
