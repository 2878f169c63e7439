-- One turn of a round, whether the row at its index is woken or not. Cite row_there for a row, round_turn for what is left of the
-- round, absent_turn for the orders that are not there, room_turn for the tape.
use Rattle.std.proofs.Common.{◌≡◌, ℕ, zero, suc, ◌+◌, ◌<◌, ◌≤◌, Bool, true, false, cond, ◌&&◌, ◌⊎◌, List, [], ◌∷◌, length, get_or, drop, None, sym, ap, ◌∙◌, inl, inr, arith}
use Rattle.std.proofs.lemmas.List.{get_or_default, drop_all}
use Rattle.std.proofs.lemmas.Bool.{cases_Bool, cond-true, cond-false}
use Rattle.terms.specs.Terms.{OrderTerms}
use Rattle.terms.specs.Sides.{same_side}
use Rattle.rules.specs.Market.{Order, Market, resting, those}
use Rattle.rules.specs.Calls.{pegged}
use Rattle.rules.specs.Sweep.{sweep, sweep_each}
use Rattle.market.specs.declared.table.Row.{Row}
use Rattle.market.specs.Rows.{row_order, rising, orders_in}
use Rattle.market.specs.Changes.{SameButShares}
use Rattle.market.specs.declared.market.Round.{Round}
use Rattle.market.specs.declared.market.Round.TheVariants.{PeriodEnded, QuoteChanged}
use Rattle.market.specs.Rounds.{woken, swept_if}
use Rattle.market.proofs.EachSwept.{round_passes, round_sweeps, absent_after, each_longer}

pub row_there : (rs : List Row) (i : ℕ) → i < length rs → Row
row_there [] i lt = absurd (omega arith)
row_there (r ∷ rs) zero lt = r
row_there (r ∷ rs) (suc i) lt = row_there rs i (omega arith)

by_terms : (g : Round) (a b : Order) → a.terms ≡ b.terms → woken g a ≡ woken g b
by_terms (PeriodEnded s) a b e = ap (λ (w : OrderTerms). w.qdp && same_side w.side s) e
by_terms QuoteChanged a b e = ap (λ (w : OrderTerms). pegged w.kind) e

module _ (g : Round) (t : ℕ) (rs now : List Row) (i : ℕ) (d : Row) (lt : i < length rs) (within : i < length now) (same : SameButShares rs now) where
  pub round_turn : (m : Market) → rising 0 rs ≡ true → ((k : ℕ) → resting k (orders_in rs) ≡ None → resting k m.orders ≡ None) → sweep_each t (those (woken g) (orders_in (drop i rs))) m ≡ sweep_each t (those (woken g) (orders_in (drop (i + 1) rs))) (swept_if g t (get_or now i d) m)
  round_turn m up gone = by (cases_Bool (woken g (row_order cur)))
    where
      cur : Row
      cur = get_or now i d

      at : cur ≡ get_or now i cur
      at = get_or_default now i d (get_or now i d) within

      by : (woken g (row_order cur) ≡ true) ⊎ (woken g (row_order cur) ≡ false) → sweep_each t (those (woken g) (orders_in (drop i rs))) m ≡ sweep_each t (those (woken g) (orders_in (drop (i + 1) rs))) (swept_if g t cur m)
      by (inl h) =
          round_sweeps (woken g) (by_terms g) t rs now i cur lt at same m up gone h
          ∙ ap (sweep_each t (those (woken g) (orders_in (drop (i + 1) rs)))) (sym (cond-true (woken g (row_order cur)) (sweep t (row_order cur) m) m h))
      by (inr h) =
          round_passes (woken g) (by_terms g) t rs now i cur lt at same m h
          ∙ ap (sweep_each t (those (woken g) (orders_in (drop (i + 1) rs)))) (sym (cond-false (woken g (row_order cur)) (sweep t (row_order cur) m) m h))

pub absent_turn : (g : Round) (t : ℕ) (r : Row) (k : ℕ) (m : Market) → resting k m.orders ≡ None → resting k (swept_if g t r m).orders ≡ None
absent_turn g t r k m e = by (woken g (row_order r))
  where
    by : (wakes : Bool) → resting k (cond wakes (sweep t (row_order r) m) m).orders ≡ None
    by true = absent_after k t (row_order r) m e
    by false = e

-- a turn that is still to come has room, if the whole round has
pub room_turn : (t : ℕ) (os : List Order) (m whole : Market) (capacity : ℕ) → whole ≡ sweep_each t os m → length whole.tape ≤ capacity → length m.tape ≤ capacity
room_turn t os m whole capacity e room = omega (arith, ap (λ (r : Market). length r.tape) e, room, each_longer t os m)

pub round_over : (t : ℕ) (f : Order → Bool) (rs : List Row) (i : ℕ) (m : Market) → length rs ≤ i → sweep_each t (those f (orders_in (drop i rs))) m ≡ m
unfolding sweep_each those orders_in
round_over t f rs i m h = ap (λ xs. sweep_each t (those f (orders_in xs)) m) (drop_all i rs h)
