-- Each line of a tape tells a trade that was due. Kept over every step: a line is told when it is made, and what was told of the
-- earlier ones lasts. During a sweep the taker's reach is what it was, since no period of its own side begins.
-- Cite: Day, day_sweep, day_each, settle_day; the law is lines_tell_trades.
use Rattle.std.proofs.Common.{◌≡◌, ℕ, ◌+◌, Bool, true, false, cond, ◌⊎◌, List, [], ◌∷◌, ◌++◌, length, is_some, Some, None, sym, refl, ap, ◌∙◌, subst, inl, inr, append_assoc, append-nil, arith}
use Rattle.terms.specs.Sides.{opposite}
use Rattle.terms.specs.Terms.{OrderTerms}
use Rattle.terms.specs.declared.side.Side.{Side}
use Rattle.terms.specs.declared.side.Side.TheVariants.{Buy, Sell}
use Rattle.tape.specs.declared.line.Line.{Line}
use Rattle.tape.specs.declared.line.Mark.TheVariants.{Nothing}
use Rattle.rules.specs.Calls.{swept_in, joined, follows_quote, requoted}
use Rattle.rules.specs.Clock.{end_period, protected_on, settle}
use Rattle.rules.specs.Market.{Order, Market, side_of, end_of, reach_in, resting, lower, without, with_orders, with_quote, with_end, those}
use Rattle.rules.specs.Priority.{line_price, partner_for, next_partner}
use Rattle.rules.specs.Runs.{opened}
use Rattle.rules.specs.Sweep.{recorded, trade, traded, after_trade, depletes, line_of, side_mark, sweep, sweep_each}
use Rattle.rules.specs.Trades.{Meeting, Step, joins, leaves, quotes, ends, trades, Leads, here, on, LineTellsTrade, TradesTold, LinesTellTrades}
use Rattle.rules.proofs.Apart.{Agree, agree_calm, sweep_calm}
use Rattle.rules.proofs.Calm.{Calm, calm_itself, calm_then, trade_calm}
use Rattle.rules.proofs.Lasting.{lines_keep, ends_keep, Lasts, run_lasts}
use Rattle.rules.proofs.Members.{In, in_has, in_push}
use Rattle.rules.proofs.Prices.{reach_same}
use Rattle.rules.proofs.Rows.{resting_in}
use Rattle.rules.proofs.Trade.{trade_end, partner_rests}
use Rattle.rules.proofs.Uncrossed.{Orderly, orderly_lasts, end_orderly, those_from}

-- the line that a trade puts on the tape
recorded_tape : (b : Bool) (t q : ℕ) (o x : Order) (m : Market) (s : Side) → side_of x ≡ s
    → (recorded b t q o x m).tape ≡ m.tape ++ (line_of t q (cond b (side_mark (side_of x)) Nothing) o x ∷ [])
recorded_tape false t q o x m s e = refl
recorded_tape true t q o x m Buy e = rw e
recorded_tape true t q o x m Sell e = rw e

trade_tape : (t p : ℕ) (o x : Order) (m : Market)
    → (trade t p o x m).tape
    ≡ m.tape ++ (line_of t (line_price m p x) (cond (depletes m x (lower x.number (traded o x) m.orders)) (side_mark (side_of x)) Nothing) o x ∷ [])
unfolding trade
trade_tape t p o x m =
    recorded_tape (depletes m x (lower x.number (traded o x) m.orders)) t (line_price m p x) o x (with_orders (after_trade o x m.orders) m) (side_of x) refl

end_orders : (s : Side) (m : Market) → (with_end s None m).orders ≡ m.orders
end_orders Buy m = refl
end_orders Sell m = refl

end_tape : (s : Side) (m : Market) → (with_end s None m).tape ≡ m.tape
end_tape Buy m = refl
end_tape Sell m = refl

module _ (start : Market) where
  told_on : (m r : Market) → Step m r → (earlier : List Line) (line : Line) → LineTellsTrade start m earlier line → LineTellsTrade start r earlier line
  told_on m r s earlier line h =
      record {
        market = h.market;
        taker = h.taker;
        partner = h.partner;
        before = h.before;
        tape = h.tape;
        meeting = h.meeting;
        taker_number = h.taker_number;
        partner_number = h.partner_number;
        shares = h.shares;
        price = h.price;
        mark = h.mark;
        after = on _ m r h.after s;
      }

  -- what is told lasts over a step
  trades_on : (m r : Market) → Step m r → (earlier ls : List Line) → TradesTold start m earlier ls → TradesTold start r earlier ls
  trades_on m r s earlier [] h = tt
  trades_on m r s earlier (l ∷ ls) h = (told_on m r s earlier l h.0, trades_on m r s (earlier ++ (l ∷ [])) ls h.1)

  -- one line more
  trades_push : (m : Market) (earlier ls : List Line) (l : Line) → TradesTold start m earlier ls → LineTellsTrade start m (earlier ++ ls) l
      → TradesTold start m earlier (ls ++ (l ∷ []))
  trades_push m earlier [] l h told = (subst (λ xs. LineTellsTrade start m xs l) (append-nil earlier) told, tt)
  trades_push m earlier (x ∷ ls) l h told = (
    h.0,
    trades_push m (earlier ++ (x ∷ [])) ls l h.1 (subst (λ xs. LineTellsTrade start m xs l) (sym (append_assoc earlier (x ∷ []) ls)) told),
  )

  -- the market comes of the opening, and every line of its tape is told
  pub record Day (m : Market) : Type 0 where
    pub leads : Leads start m
    pub told : TradesTold start m [] m.tape

  day_step : (m r : Market) → Step m r → r.tape ≡ m.tape → Day m → Day r
  day_step m r s e d =
      record {
        leads = on start m r d.leads s;
        told = subst (λ ls. TradesTold start r [] ls) (sym e) (trades_on m r s [] m.tape d.told);
      }

  day_trade : (t : ℕ) (o x : Order) (m : Market) → Meeting m o x → Day m → Day (trade t (reach_in m o) o x m)
  day_trade t o x m meeting d =
      record {
        leads = on start m r d.leads step;
        told = subst (λ ls. TradesTold start r [] ls) (sym (trade_tape t (reach_in m o) o x m))
            (trades_push r [] m.tape line (trades_on m r step [] m.tape d.told) told);
      }
    where
      r : Market
      r = trade t (reach_in m o) o x m

      step : Step m r
      step = trades m t o x meeting

      line : Line
      line =
          line_of t (line_price m (reach_in m o) x) (cond (depletes m x (lower x.number (traded o x) m.orders)) (side_mark (side_of x)) Nothing) o x

      told : LineTellsTrade start r m.tape line
      told =
          record {
            market = m;
            taker = o;
            partner = x;
            before = d.leads;
            tape = refl;
            meeting = meeting;
            taker_number = refl;
            partner_number = refl;
            shares = refl;
            price = refl;
            mark = refl;
            after = here r;
          }

  -- at any time in a sweep: the taker's reach is what it was at its start
  record Within (o : Order) (m r : Market) : Type 0 where
    day : Day r
    calm : Calm m r
    own : end_of (side_of o) r ≡ end_of (side_of o) m

  day_line : (t : ℕ) (o : Order) (m : Market) → Agree m.orders o → (r : Market) (row x : Order) → resting o.number r.orders ≡ Some row
      → partner_for o (reach_in m o) r ≡ Some x → Within o m r → Within o m (trade t (reach_in m o) row x r)
  day_line t o m agree r row x e f h =
      record {
        day = subst (λ p. Day (trade t p row x r)) reach (day_trade t row x r meeting h.day);
        calm = calm_then m r (trade t (reach_in m o) row x r) h.calm (trade_calm t (reach_in m o) row x r);
        own = trade_end t (reach_in m o) row x r (side_of o) other.1 ∙ h.own;
      }
    where
      i : In row r.orders × (row.number ≡ o.number)
      i = resting_in o.number r.orders row e

      other : In x r.orders × (side_of x ≡ opposite (side_of o))
      other = partner_rests o (reach_in m o) r x f

      terms : row.terms ≡ o.terms
      terms = agree_calm m r h.calm o agree row i.0 i.1

      reach : reach_in r row ≡ reach_in m o
      reach = reach_same m r o row (sym terms) (ap is_some h.own) h.calm.bid h.calm.offer

      meeting : Meeting r row x
      meeting =
          record {
            taker_rests = in_has r.orders row i.0;
            partner_rests = in_has r.orders x other.0;
            next =
                ap (λ (w : OrderTerms). next_partner r (opposite w.side) (reach_in r row) r.orders) terms
                ∙ ap (λ p. partner_for o p r) reach
                ∙ f;
          }

  pub day_sweep : (t : ℕ) (o : Order) (m : Market) → Agree m.orders o → Day m → Day (sweep t o m)
  unfolding sweep
  day_sweep t o m agree d =
      let done : Within o m _ =
      lines_keep (Within o m) t (reach_in m o) o (day_line t o m agree) (length m.orders) m
      (record { day = d; calm = calm_itself m; own = refl }) in
      done.day

  pub day_each : (t : ℕ) (os : List Order) (m : Market) → ((o : Order) → In o os → Agree m.orders o) → Day m → Day (sweep_each t os m)
  unfolding sweep_each
  day_each t [] m g d = d
  day_each t (o ∷ os) m g d =
      day_each t os (sweep t o m) (λ z i. agree_calm m (sweep t o m) (sweep_calm t o m) z (g z (inr i))) (day_sweep t o m (g o (inl refl)) d)

  day_end : (d : Side × ℕ) (m : Market) → ((x : Order) → In x m.orders → Agree m.orders x) → Day m → Day (end_period d m)
  unfolding end_period
  day_end d m g h =
      day_each d.1 (those (protected_on d.0) m.orders) (with_end d.0 None m)
      (λ o i. subst (λ os. Agree os o) (sym (end_orders d.0 m)) (g o (those_from (protected_on d.0) m.orders o i)))
      (day_step m (with_end d.0 None m) (ends m d.0) (end_tape d.0 m) h)

  record Orderliness (n : ℕ) (m : Market) : Type 0 where
    orderly : Orderly n m
    day : Day m

  settle_day : (n t : ℕ) (m : Market) → Orderliness n m → Orderliness n (settle t m)
  unfolding settle
  settle_day n t m h =
      ends_keep (Orderliness n) t
      (λ d r _ g. record { orderly = end_orderly n d r g.orderly; day = day_end d r g.orderly.agree g.day })
      (length m.orders + 2) m h

  day_enter : (n t : ℕ) (o : Order) (m : Market) → o.number ≡ n + 1 → o.left ≡ o.terms.shares → Orderliness n m → Day (swept_in t o m)
  unfolding swept_in
  day_enter n t o m e full h =
      day_sweep t o (joined o m) (λ x i. agree_new x (in_push m.orders o x i)) (day_step m (joined o m) (joins m o full) refl h.day)
    where
      agree_new : (x : Order) → (In x m.orders ⊎ (x ≡ o)) → x.number ≡ o.number → x.terms ≡ o.terms
      agree_new x (inl i) q = absurd (omega (arith, h.orderly.few x i))
      agree_new x (inr p) q = ap (λ (z : Order). z.terms) p

  day_quote : (n t bid offer : ℕ) (m : Market) → Orderliness n m → Day (requoted t bid offer m)
  day_quote n t bid offer m h =
      day_each t (those follows_quote m.orders) (with_quote bid offer m)
      (λ o i. h.orderly.agree o (those_from follows_quote m.orders o i))
      (day_step m (with_quote bid offer m) (quotes m bid offer) refl h.day)

  day_lasts : Lasts (λ t n m. Orderliness n m)
  day_lasts =
      record {
        fewer = λ t n k m h. record {
          orderly = orderly_lasts.fewer t n k m h.orderly;
          day = day_step m (with_orders (without k m.orders) m) (leaves m k) refl h.day;
        };
        enter = λ t n o m e full h. record { orderly = orderly_lasts.enter t n o m e full h.orderly; day = day_enter n t o m e full h };
        quote = λ t n bid offer m h. record { orderly = orderly_lasts.quote t n bid offer m h.orderly; day = day_quote n t bid offer m h };
      }

pub lines_tell_trades : LinesTellTrades
lines_tell_trades bid offer room cs =
    let start : Market = (opened bid offer).market in
    (run_lasts (λ t n m. Orderliness start n m) (day_lasts start) (λ t n u m _ h. settle_day start n u m h) room cs (opened bid offer)
    (record {
      orderly = record { agree = λ x i. absurd i; few = λ x i. absurd i; apart = λ x y i j. absurd i };
      day = record { leads = here start; told = tt };
    })).day.told
