-- The tape only grows: what stood on it stands first after a line, a sweep, a settling and a call.
-- Cite: tape_only_grows.
use Rattle.std.proofs.Common.{◌≡◌, ℕ, ◌+◌, Bool, true, false, List, [], ◌∷◌, ◌++◌, length, None, sym, refl, ap, ◌∙◌, append_assoc, append-nil, length-append, arith}
use Rattle.terms.specs.declared.side.Side.{Side}
use Rattle.terms.specs.declared.side.Side.TheVariants.{Buy, Sell}
use Rattle.tape.specs.declared.line.Line.{Line}
use Rattle.rules.specs.Calls.{Call, call, swept_in, joined, follows_quote}
use Rattle.rules.specs.Clock.{end_period, protected_on, settle}
use Rattle.rules.specs.Growth.{TapeOnlyGrows}
use Rattle.rules.specs.Market.{Book, Market, Order, lower, side_of, those, with_end, with_orders, with_quote}
use Rattle.rules.specs.Runs.{opened, run}
use Rattle.rules.specs.Sweep.{after_trade, depletes, recorded, trade, traded}
use Rattle.rules.specs.Priority.{line_price}
use Rattle.rules.proofs.Count.{lines_within_orders}
use Rattle.rules.proofs.Lasting.{call_lasts, each_keep, ends_keep, sweep_keep, Lasts}

-- the market's tape begins with these lines
pub record Begins (lines : List Line) (m : Market) : Type 0 where
  pub more : List Line
  pub is : m.tape ≡ lines ++ more

begins_pushed : (lines : List Line) (m r : Market) (l : Line) → r.tape ≡ m.tape ++ (l ∷ []) → Begins lines m → Begins lines r
begins_pushed lines m r l e h =
    record { more = h.more ++ (l ∷ []); is = e ∙ ap (λ ls. ls ++ (l ∷ [])) h.is ∙ append_assoc lines h.more (l ∷ []) }

recorded_begins : (b : Bool) (t q : ℕ) (o x : Order) (m : Market) (s : Side) (lines : List Line) → side_of x ≡ s
    → Begins lines m → Begins lines (recorded b t q o x m)
recorded_begins false t q o x m s lines e h = begins_pushed lines m _ _ refl h
recorded_begins true t q o x m Buy lines e h = rw e (begins_pushed lines m _ _ refl h)
recorded_begins true t q o x m Sell lines e h = rw e (begins_pushed lines m _ _ refl h)

same_begins : (lines : List Line) (m r : Market) → r.tape ≡ m.tape → Begins lines m → Begins lines r
same_begins lines m r e h = record { more = h.more; is = e ∙ h.is }

trade_begins : (lines : List Line) (t p : ℕ) (o x : Order) (m : Market) → Begins lines m → Begins lines (trade t p o x m)
unfolding trade
trade_begins lines t p o x m h =
    recorded_begins (depletes m x (lower x.number (traded o x) m.orders)) t (line_price m p x) o x
    (with_orders (after_trade o x m.orders) m) (side_of x) lines refl (same_begins lines m (with_orders (after_trade o x m.orders) m) refl h)

ended_begins : (lines : List Line) (d : Side × ℕ) (m : Market) → Begins lines m → Begins lines (end_period d m)
unfolding end_period
ended_begins lines d m h =
    each_keep (Begins lines) d.1 (trade_begins lines d.1) (those (protected_on d.0) m.orders) (with_end d.0 None m) (with_end_begins d.0 h)
  where
    with_end_begins : (s : Side) → Begins lines m → Begins lines (with_end s None m)
    with_end_begins Buy g = same_begins lines m _ refl g
    with_end_begins Sell g = same_begins lines m _ refl g

settle_begins : (lines : List Line) (u : ℕ) (m : Market) → Begins lines m → Begins lines (settle u m)
unfolding settle
settle_begins lines u m h = ends_keep (Begins lines) u (λ d r _ g. ended_begins lines d r g) (length m.orders + 2) m h

swept_begins : (lines : List Line) (t : ℕ) (o : Order) (m : Market) → Begins lines m → Begins lines (swept_in t o m)
unfolding swept_in
swept_begins lines t o m h = sweep_keep (Begins lines) t (trade_begins lines t) o (joined o m) (same_begins lines m _ refl h)

begins_lasts : (lines : List Line) → Lasts (λ t n m. Begins lines m)
begins_lasts lines =
    record {
      fewer = λ t n k m h. same_begins lines m _ refl h;
      enter = λ t n o m _ _ h. swept_begins lines t o m h;
      quote = λ t n bid offer m h. each_keep (Begins lines) t (trade_begins lines t) (those follows_quote m.orders) (with_quote bid offer m) (same_begins lines m _ refl h);
    }

call_begins : (lines : List Line) (free : ℕ) (c : Call) (b : Book) → Begins lines b.market → Begins lines (call free c b).book.market
call_begins lines free c b h =
    call_lasts (λ t n m. Begins lines m) (begins_lasts lines) (λ t n u m _ g. settle_begins lines u m g) free c b h

pub tape_only_grows : TapeOnlyGrows
tape_only_grows bid offer room free cs c =
    let b : Book = (run room cs (opened bid offer)).book in
    let g = call_begins b.market.tape free c b (record { more = []; is = sym (append-nil b.market.tape) }) in
    record {
      written = g.more;
      tape = g.is;
      few = omega (arith, ap length g.is, length-append b.market.tape g.more, lines_within_orders bid offer room free cs c);
    }
