-- Every period that runs ends after the clock: a new one ends later than its line, and settling ends the others.
-- Cite: Later, later_lasts, settle_later.
use Rattle.std.proofs.Common.{◌≡◌, ℕ, ◌+◌, ◌<◌, ◌≤◌, Bool, true, false, ◌⊎◌, List, Some, sym, refl, inl, inr, arith}
use Rattle.terms.specs.declared.side.Side.{Side}
use Rattle.terms.specs.declared.side.Side.TheVariants.{Buy, Sell}
use Rattle.rules.specs.Calls.{swept_in, joined, follows_quote}
use Rattle.rules.specs.Clock.{settle}
use Rattle.rules.specs.Limits.{protection_period}
use Rattle.rules.specs.Market.{Market, end_of, Order, side_of, with_orders, with_quote, without, those}
use Rattle.rules.specs.Sweep.{recorded, trade}
use Rattle.rules.proofs.Cases.{some_same}
use Rattle.rules.proofs.Lasting.{sweep_keep, Lasts, each_keep}
use Rattle.rules.proofs.Settle.{settled}

-- every running period ends after t
abbrev pub Later : ℕ → Market → Type 0
Later t m = (s : Side) (e : ℕ) → end_of s m ≡ Some e → t < e

-- a period after a line is one of before, or ends a protection period after it
recorded_ends : (b : Bool) (t q : ℕ) (o x : Order) (m : Market) (z s : Side) (e : ℕ) → side_of x ≡ z
    → end_of s (recorded b t q o x m) ≡ Some e → (end_of s m ≡ Some e) ⊎ (e ≡ t + protection_period)
recorded_ends false t q o x m z Buy e p h = inl h
recorded_ends false t q o x m z Sell e p h = inl h
recorded_ends true t q o x m Buy Buy e p h = inr (sym (some_same (t + protection_period) e (rw p at h)))
recorded_ends true t q o x m Buy Sell e p h = inl (rw p at h)
recorded_ends true t q o x m Sell Buy e p h = inl (rw p at h)
recorded_ends true t q o x m Sell Sell e p h = inr (sym (some_same (t + protection_period) e (rw p at h)))

pub trade_ends : (t p : ℕ) (o x : Order) (m : Market) (s : Side) (e : ℕ) → end_of s (trade t p o x m) ≡ Some e
    → (end_of s m ≡ Some e) ⊎ (e ≡ t + protection_period)
unfolding trade
trade_ends t p o x m Buy e h = recorded_ends _ t _ o x _ (side_of x) Buy e refl h
trade_ends t p o x m Sell e h = recorded_ends _ t _ o x _ (side_of x) Sell e refl h

trade_later : (t p : ℕ) (o x : Order) (m : Market) → Later t m → Later t (trade t p o x m)
trade_later t p o x m h s e q = by_cause (trade_ends t p o x m s e q)
  where
    by_cause : ((end_of s m ≡ Some e) ⊎ (e ≡ t + protection_period)) → t < e
    by_cause (inl f) = h s e f
    by_cause (inr f) = omega arith

later_orders : (t : ℕ) (os : List Order) (m : Market) → Later t m → Later t (with_orders os m)
later_orders t os m h Buy = h Buy
later_orders t os m h Sell = h Sell

later_quote : (t b a : ℕ) (m : Market) → Later t m → Later t (with_quote b a m)
later_quote t b a m h Buy = h Buy
later_quote t b a m h Sell = h Sell

swept_later : (t : ℕ) (o : Order) (m : Market) → Later t m → Later t (swept_in t o m)
unfolding swept_in
swept_later t o m h = sweep_keep (Later t) t (trade_later t) o (joined o m) (later_orders t _ m h)

pub later_lasts : Lasts (λ t n m. Later t m)
later_lasts =
    record {
      fewer = λ t n k m h. later_orders t (without k m.orders) m h;
      enter = λ t n o m _ _ h. swept_later t o m h;
      quote = λ t n bid offer m h. each_keep (Later t) t (trade_later t) (those follows_quote m.orders) (with_quote bid offer m) (later_quote t bid offer m h);
    }

pub settle_later : (t n u : ℕ) (m : Market) → t ≤ u → Later t m → Later u (settle u m)
settle_later t n u m l h s e q = settled u m s e q
