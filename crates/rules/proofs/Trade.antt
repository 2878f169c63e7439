-- One line: what it leaves of rows, quote and periods; it ends a row. Then the same of a whole sweep.
-- Cite: trade_orders, trade_bid, trade_offer, trade_end, trade_shorter, partner_rests, sweep_fewer, sweep_end.
use Rattle.std.proofs.Common.{◌≡◌, ℕ, ◌<◌, ◌≤◌, Bool, true, false, ◌⊎◌, List, length, Some, refl, ap, ◌∙◌, inl, inr, arith}
use Rattle.std.proofs.lemmas.Bool.{cases_lt, cases_eq, and_parts}
use Rattle.terms.specs.Sides.{opposite}
use Rattle.terms.specs.declared.side.Side.{Side}
use Rattle.terms.specs.declared.side.Side.TheVariants.{Buy, Sell}
use Rattle.rules.specs.Market.{Order, Market, side_of, lower, end_of, reach_in}
use Rattle.rules.specs.Priority.{line_price, partner_for}
use Rattle.rules.specs.Sweep.{recorded, trade, after_trade, depletes, traded, lines, sweep}
use Rattle.rules.proofs.Lasting.{lines_keep}
use Rattle.rules.proofs.Members.{In}
use Rattle.rules.proofs.Partners.{next_in}
use Rattle.rules.proofs.Rows.{length_lower, lower_drops, lower_keeps_other, resting_in}
use Rattle.rules.proofs.Sides.{same_side_is}

recorded_orders : (b : Bool) (t q : ℕ) (o x : Order) (m : Market) (s : Side) → side_of x ≡ s → (recorded b t q o x m).orders ≡ m.orders
recorded_orders false t q o x m s e = refl
recorded_orders true t q o x m Buy e = rw e
recorded_orders true t q o x m Sell e = rw e

pub trade_orders : (t p : ℕ) (o x : Order) (m : Market) → (trade t p o x m).orders ≡ after_trade o x m.orders
unfolding trade
trade_orders t p o x m = recorded_orders (depletes m x (lower x.number (traded o x) m.orders)) t (line_price m p x) o x _ (side_of x) refl

recorded_bid : (b : Bool) (t q : ℕ) (o x : Order) (m : Market) (s : Side) → side_of x ≡ s → (recorded b t q o x m).bid ≡ m.bid
recorded_bid false t q o x m s e = refl
recorded_bid true t q o x m Buy e = rw e
recorded_bid true t q o x m Sell e = rw e

recorded_offer : (b : Bool) (t q : ℕ) (o x : Order) (m : Market) (s : Side) → side_of x ≡ s → (recorded b t q o x m).offer ≡ m.offer
recorded_offer false t q o x m s e = refl
recorded_offer true t q o x m Buy e = rw e
recorded_offer true t q o x m Sell e = rw e

-- the other side's period is as it was
recorded_end : (b : Bool) (t q : ℕ) (o x : Order) (m : Market) (s : Side) → side_of x ≡ opposite s → end_of s (recorded b t q o x m) ≡ end_of s m
recorded_end false t q o x m Buy e = refl
recorded_end false t q o x m Sell e = refl
recorded_end true t q o x m Buy e = rw e
recorded_end true t q o x m Sell e = rw e

pub trade_bid : (t p : ℕ) (o x : Order) (m : Market) → (trade t p o x m).bid ≡ m.bid
unfolding trade
trade_bid t p o x m = recorded_bid (depletes m x (lower x.number (traded o x) m.orders)) t (line_price m p x) o x _ (side_of x) refl

pub trade_offer : (t p : ℕ) (o x : Order) (m : Market) → (trade t p o x m).offer ≡ m.offer
unfolding trade
trade_offer t p o x m = recorded_offer (depletes m x (lower x.number (traded o x) m.orders)) t (line_price m p x) o x _ (side_of x) refl

pub trade_end : (t p : ℕ) (o x : Order) (m : Market) (s : Side) → side_of x ≡ opposite s → end_of s (trade t p o x m) ≡ end_of s m
unfolding trade
trade_end t p o x m s e =
    recorded_end (depletes m x (lower x.number (traded o x) m.orders)) t (line_price m p x) o x _ s e ∙ end_with s
  where
    end_with : (s : Side)
        → end_of s (record { orders = after_trade o x m.orders; bid = m.bid; offer = m.offer; buy_end = m.buy_end; sell_end = m.sell_end; tape = m.tape }) ≡ end_of s m
    end_with Buy = refl
    end_with Sell = refl

-- each line ends a row
pub after_shorter : (o x : Order) (os : List Order) → In o os → In x os → length (after_trade o x os) < length os
after_shorter o x os i j = by_order (cases_lt o.left x.left) (cases_eq o.number x.number)
  where
    more : length (after_trade o x os) ≤ length (lower x.number (traded o x) os)
    more = length_lower o.number (traded o x) (lower x.number (traded o x) os)

    by_order : ((o.left < x.left) ⊎ (x.left ≤ o.left)) → ((o.number ≡ x.number) ⊎ (o.number ≡ x.number → ⊥))
        → length (after_trade o x os) < length os
    by_order (inr l) (inl e) = omega (arith, more, lower_drops x.number (traded o x) os x j refl (omega arith))
    by_order (inr l) (inr d) = omega (arith, more, lower_drops x.number (traded o x) os x j refl (omega arith))
    by_order (inl l) (inl e) = omega (arith, more, lower_drops x.number (traded o x) os o i e (omega arith))
    by_order (inl l) (inr d) =
        omega (
          arith,
          length_lower x.number (traded o x) os,
          lower_drops o.number (traded o x) (lower x.number (traded o x) os) o (lower_keeps_other x.number (traded o x) os o i d) refl (omega arith),
        )

pub trade_shorter : (t p : ℕ) (o x : Order) (m : Market) → In o m.orders → In x m.orders → length (trade t p o x m).orders < length m.orders
trade_shorter t p o x m i j = rw trade_orders (after_shorter o x m.orders i j)

-- a partner rests, on the other side
pub partner_rests : (o : Order) (p : ℕ) (m : Market) (x : Order) → partner_for o p m ≡ Some x → In x m.orders × (side_of x ≡ opposite (side_of o))
partner_rests o p m x e =
    let h = next_in m (opposite (side_of o)) p m.orders x e in
    (h.0, same_side_is _ _ (and_parts _ _ h.1).0)

-- a sweep leaves all as it was, or fewer rows
abbrev pub Fewer : Market → Market → Type 0
Fewer m r = (r ≡ m) ⊎ (length r.orders < length m.orders)

pub lines_fewer : (t p : ℕ) (o : Order) (n : ℕ) (m : Market) → Fewer m (lines n t p o m)
lines_fewer t p o n m =
    lines_keep (Fewer m) t p o
    (λ r row x e f h. inr (after_line r row x (resting_in o.number r.orders row e).0 (partner_rests o p r x f).0 h))
    n m (inl refl)
  where
    after_line : (r : Market) (row x : Order) → In row r.orders → In x r.orders → Fewer m r
        → length (trade t p row x r).orders < length m.orders
    after_line r row x i j (inl e) = omega (arith, trade_shorter t p row x r i j, ap (λ (z : Market). length z.orders) e)
    after_line r row x i j (inr l) = omega (arith, trade_shorter t p row x r i j)

pub lines_end : (t p : ℕ) (o : Order) (n : ℕ) (m : Market) → end_of (side_of o) (lines n t p o m) ≡ end_of (side_of o) m
lines_end t p o n m =
    lines_keep (λ r. end_of (side_of o) r ≡ end_of (side_of o) m) t p o
    (λ r row x e f h. trade_end t p row x r (side_of o) (partner_rests o p r x f).1 ∙ h)
    n m refl

pub sweep_fewer : (t : ℕ) (o : Order) (m : Market) → Fewer m (sweep t o m)
unfolding sweep
sweep_fewer t o m = lines_fewer t (reach_in m o) o (length m.orders) m

pub sweep_end : (t : ℕ) (o : Order) (m : Market) → end_of (side_of o) (sweep t o m) ≡ end_of (side_of o) m
unfolding sweep
sweep_end t o m = lines_end t (reach_in m o) o (length m.orders) m
