-- A sweep only calms: the rows are those of before with fewer shares, the quote stays, periods begin and none ends. And a
-- sweep ends with its taker gone or with no partner left. By induction over its lines.
-- Cite: Calm, calm_then, lines_calm, lines_finish.
use Rattle.std.proofs.Common.{◌≡◌, ℕ, zero, suc, ◌≤◌, Bool, true, false, ◌⊎◌, List, [], ◌∷◌, length, Some, None, refl, ◌∙◌, subst, inl, inr, arith}
use Rattle.terms.specs.declared.side.Side.{Side}
use Rattle.terms.specs.declared.side.Side.TheVariants.{Buy, Sell}
use Rattle.rules.specs.Market.{Market, Order, period_runs, side_of, lower, resting}
use Rattle.rules.specs.Priority.{partner_for}
use Rattle.rules.specs.Sweep.{recorded, trade, after_trade, traded, lines}
use Rattle.rules.proofs.Cases.{option_both}
use Rattle.rules.proofs.Lasting.{lines_keep}
use Rattle.rules.proofs.Members.{In}
use Rattle.rules.proofs.Rows.{From, same_itself, Same, lower_from, resting_in}
use Rattle.rules.proofs.Trade.{trade_orders, trade_bid, trade_offer, trade_shorter, partner_rests}

pub record Calm (m r : Market) : Type 0 where
  pub from : (y : Order) → In y r.orders → From m.orders y
  pub bid : r.bid ≡ m.bid
  pub offer : r.offer ≡ m.offer
  pub grows : (s : Side) → period_runs s m ≡ true → period_runs s r ≡ true

pub from_itself : (os : List Order) (y : Order) → In y os → From os y
from_itself os y i = (y, i, same_itself y)

pub same_then : (x y z : Order) → Same x y → Same y z → Same x z
same_then x y z a b = record { number = a.number ∙ b.number; terms = a.terms ∙ b.terms; identifier = a.identifier ∙ b.identifier }

pub from_then : (os ps : List Order) → ((y : Order) → In y ps → From os y) → (z : Order) → From ps z → From os z
from_then os ps f z h =
    let g = f h.0 h.1 in
    (g.0, g.1, same_then g.0 h.0 z g.2 h.2)

pub calm_itself : (m : Market) → Calm m m
calm_itself m = record { from = λ y i. from_itself m.orders y i; bid = refl; offer = refl; grows = λ s e. e }

pub calm_then : (m r q : Market) → Calm m r → Calm r q → Calm m q
calm_then m r q a b =
    record {
      from = λ y i. from_then m.orders r.orders a.from y (b.from y i);
      bid = b.bid ∙ a.bid;
      offer = b.offer ∙ a.offer;
      grows = λ s e. b.grows s (a.grows s e);
    }

recorded_grows : (b : Bool) (t q : ℕ) (o x : Order) (m : Market) (z s : Side) → side_of x ≡ z → period_runs s m ≡ true
    → period_runs s (recorded b t q o x m) ≡ true
recorded_grows false t q o x m z Buy e h = h
recorded_grows false t q o x m z Sell e h = h
recorded_grows true t q o x m Buy Buy e h = rw e
recorded_grows true t q o x m Buy Sell e h = rw e h
recorded_grows true t q o x m Sell Buy e h = rw e h
recorded_grows true t q o x m Sell Sell e h = rw e

pub trade_calm : (t p : ℕ) (o x : Order) (m : Market) → Calm m (trade t p o x m)
unfolding trade
trade_calm t p o x m =
    record {
      from = λ y i. after_from y (subst (λ os. In y os) (trade_orders t p o x m) i);
      bid = trade_bid t p o x m;
      offer = trade_offer t p o x m;
      grows = grown;
    }
  where
    after_from : (y : Order) → In y (after_trade o x m.orders) → From m.orders y
    after_from y i =
        from_then m.orders (lower x.number (traded o x) m.orders) (lower_from x.number (traded o x) m.orders) y
        (lower_from o.number (traded o x) _ y i)

    grown : (s : Side) → period_runs s m ≡ true → period_runs s (trade t p o x m) ≡ true
    grown Buy h = recorded_grows _ t _ o x _ (side_of x) Buy refl h
    grown Sell h = recorded_grows _ t _ o x _ (side_of x) Sell refl h

pub lines_calm : (t p : ℕ) (o : Order) (n : ℕ) (m : Market) → Calm m (lines n t p o m)
lines_calm t p o n m =
    lines_keep (Calm m) t p o (λ r row x e f h. calm_then m r (trade t p row x r) h (trade_calm t p row x r)) n m (calm_itself m)

-- a sweep ends with the taker gone or with no partner
pub lines_finish : (t p : ℕ) (o : Order) (n : ℕ) (m : Market) → length m.orders ≤ n
    → (resting o.number (lines n t p o m).orders ≡ None) ⊎ (partner_for o p (lines n t p o m) ≡ None)
unfolding lines resting
lines_finish t p o zero m l = inl (empty_rests m.orders l)
  where
    empty_rests : (os : List Order) → length os ≤ 0 → resting o.number os ≡ None
    empty_rests [] l = refl
    empty_rests (x ∷ xs) l = absurd (omega arith)
lines_finish t p o (suc n) m l =
    option_both (resting o.number m.orders) m
    (λ row. elim (partner_for o p m) [ None ↦ m | Some x ↦ lines n t p o (trade t p row x m) ])
    (λ r. (resting o.number r.orders ≡ None) ⊎ (partner_for o p r ≡ None))
    (λ e. inl e)
    (λ row e. option_both (partner_for o p m) m (λ x. lines n t p o (trade t p row x m))
    (λ r. (resting o.number r.orders ≡ None) ⊎ (partner_for o p r ≡ None))
    (λ f. inr f)
    (λ x f. lines_finish t p o n (trade t p row x m)
    (omega (arith, trade_shorter t p row x m (resting_in o.number m.orders row e).0 (partner_rests o p m x f).0))))
