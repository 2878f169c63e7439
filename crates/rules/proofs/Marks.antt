-- The tape tells which periods run, and so why an MDO has no discretion. Kept over every line, every end of a period and every
-- call: the lines with a side's mark lie a period or more before now, or the latest of them began the period that runs.
-- Cite: Marked, run_marked, run_later, cause_of; the law is tape_explains_discretion.
use Rattle.std.proofs.Common.{◌≡◌, ℕ, ◌+◌, ◌*◌, ◌<◌, ◌≤◌, Bool, true, false, ◌&&◌, ◌⊎◌, ◌↔◌, List, [], ◌∷◌, ◌++◌, length, is_some, Some, None, Option, sym, refl, ap, ◌∙◌, subst, inl, inr, append_assoc, arith}
use Rattle.std.proofs.ByRecursion.{All-push, has_append_right, All-weaker, all-has}
use Rattle.std.proofs.lemmas.Bool.{and_parts, and_from}
use Rattle.std.specs.List.{ContainsAt as Has, AllByRecursion as Every}
use Rattle.terms.specs.Terms.{is_mdo}
use Rattle.terms.specs.declared.side.Side.{Side}
use Rattle.terms.specs.declared.side.Side.TheVariants.{Buy, Sell}
use Rattle.tape.specs.declared.line.Line.{Line}
use Rattle.tape.specs.declared.line.Mark.{Mark}
use Rattle.tape.specs.declared.line.Mark.TheVariants.{BidDepleted, OfferDepleted, Nothing}
use Rattle.rules.specs.Calls.{swept_in, joined, follows_quote, Call}
use Rattle.rules.specs.Clock.{due, end_period, protected_on, settle}
use Rattle.rules.specs.Laws.{TapeExplainsDiscretion}
use Rattle.rules.specs.WholeDay.{Protected}
use Rattle.rules.specs.Limits.{protection_period}
use Rattle.rules.specs.Market.{Market, with_line, with_end, Order, side_of, with_orders, with_quote, lower, end_of, those, without, period_runs, Book, ranked_in, reach_in}
use Rattle.rules.specs.Priority.{line_price}
use Rattle.rules.specs.Runs.{run, opened}
use Rattle.rules.specs.Sweep.{side_mark, recorded, trade, depletes, traded, after_trade}
use Rattle.rules.proofs.Cases.{some_same, none_some}
use Rattle.rules.proofs.Lasting.{each_keep, ends_keep, sweep_keep, Lasts, run_lasts}
use Rattle.rules.proofs.Members.{in_has, all_in}
use Rattle.rules.proofs.Periods.{Later, later_lasts, settle_later}
use Rattle.rules.proofs.Prices.{mdo_prices}
use Rattle.rules.proofs.Settle.{due_is, settled}

-- the end of the period, or now where none runs
abbrev limit : Option ℕ → ℕ → ℕ
limit None t = t
limit (Some e) t = e

-- the line that began the period that ends at e: the latest one with the mark k
pub record Cause (k : Mark) (e : ℕ) (tape : List Line) : Type 0 where
  pub earlier : List Line
  pub line : Line
  pub later : List Line
  pub split : tape ≡ earlier ++ (line ∷ later)
  pub mark : line.mark ≡ k
  pub begins : line.time + protection_period ≡ e
  pub latest : Every (λ (z : Line). z.mark ≡ k → ⊥) later

cause_other : (k : Mark) (e : ℕ) (tape : List Line) (l : Line) → (l.mark ≡ k → ⊥) → Cause k e tape → Cause k e (tape ++ (l ∷ []))
cause_other k e tape l d c =
    record {
      earlier = c.earlier;
      line = c.line;
      later = c.later ++ (l ∷ []);
      split = ap (λ ls. ls ++ (l ∷ [])) c.split ∙ append_assoc c.earlier (c.line ∷ c.later) (l ∷ []);
      mark = c.mark;
      begins = c.begins;
      latest = All-push _ c.later l c.latest d;
    }

cause_new : (k : Mark) (e : ℕ) (tape : List Line) (l : Line) → l.mark ≡ k → l.time + protection_period ≡ e → Cause k e (tape ++ (l ∷ []))
cause_new k e tape l f g = record { earlier = tape; line = l; later = []; split = refl; mark = f; begins = g; latest = tt }

cause_has : (k : Mark) (e : ℕ) (tape : List Line) (c : Cause k e tape) → Has tape c.line
cause_has k e tape c =
    subst (λ ls. Has ls c.line) (sym c.split) (has_append_right c.earlier (c.line ∷ c.later) c.line (in_has (c.line ∷ c.later) c.line (inl refl)))

-- at time t, of one side, with the mark k: every marked line is a period before the end, or before now where none runs;
-- a period that runs was started by a marked line
record Kept (t : ℕ) (k : Mark) (end : Option ℕ) (tape : List Line) : Type 0 where
  lapsed : Every (λ (l : Line). l.mark ≡ k → l.time + protection_period ≤ limit end t) tape
  cause : (e : ℕ) → end ≡ Some e → Cause k e tape
  ahead : (e : ℕ) → end ≡ Some e → t ≤ e

pub record Marked (t : ℕ) (m : Market) : Type 0 where
  pub past : Every (λ (l : Line). l.time ≤ t) m.tape
  buys : Kept t BidDepleted m.buy_end m.tape
  sells : Kept t OfferDepleted m.sell_end m.tape

kept_other : (t : ℕ) (k : Mark) (end : Option ℕ) (tape : List Line) (l : Line) → (l.mark ≡ k → ⊥) → Kept t k end tape
    → Kept t k end (tape ++ (l ∷ []))
kept_other t k end tape l d h =
    record {
      lapsed = All-push _ tape l h.lapsed (λ e. absurd (d e));
      cause = λ e p. cause_other k e tape l d (h.cause e p);
      ahead = h.ahead;
    }

kept_new : (t : ℕ) (k : Mark) (tape : List Line) (l : Line) → l.time ≡ t → l.mark ≡ k → Every (λ (z : Line). z.time ≤ t) tape
    → Kept t k (Some (t + protection_period)) (tape ++ (l ∷ []))
kept_new t k tape l e f h =
    record {
      lapsed = All-push _ tape l (All-weaker (λ (z : Line). z.time ≤ t) _ (λ z q _. omega arith) tape h) (λ _. omega arith);
      cause = λ u p. cause_new k u tape l f (omega (arith, some_same (t + protection_period) u p));
      ahead = λ u p. omega (arith, some_same (t + protection_period) u p);
    }

kept_later : (t u : ℕ) (k : Mark) (end : Option ℕ) (tape : List Line) → t ≤ u → ((e : ℕ) → end ≡ Some e → u ≤ e)
    → Kept t k end tape → Kept u k end tape
kept_later t u k None tape l a h =
    record { lapsed = All-weaker (λ (z : Line). z.mark ≡ k → z.time + protection_period ≤ t) _ (λ z q p. omega (arith, q p)) tape h.lapsed; cause = h.cause; ahead = a }
kept_later t u k (Some e) tape l a h = record { lapsed = h.lapsed; cause = h.cause; ahead = a }

kept_ended : (t : ℕ) (k : Mark) (e : ℕ) (end : Option ℕ) (tape : List Line) → end ≡ Some e → Kept t k end tape → Kept e k None tape
kept_ended t k e end tape p h =
    record {
      lapsed = subst (λ v. Every (λ (z : Line). z.mark ≡ k → z.time + protection_period ≤ limit v t) tape) p h.lapsed;
      cause = λ u q. absurd (none_some None u refl q);
      ahead = λ u q. absurd (none_some None u refl q);
    }

plain_line : (t : ℕ) (l : Line) (m : Market) → l.time ≡ t → l.mark ≡ Nothing → Marked t m → Marked t (with_line l m)
plain_line t l m e f h =
    record {
      past = All-push _ m.tape l h.past (omega arith);
      buys = kept_other t BidDepleted m.buy_end m.tape l (λ p. let z : ◌≡◌ {A = ℕ} 0 1 = cc in omega arith) h.buys;
      sells = kept_other t OfferDepleted m.sell_end m.tape l (λ p. let z : ◌≡◌ {A = ℕ} 0 1 = cc in omega arith) h.sells;
    }

marked_line : (t : ℕ) (z : Side) (l : Line) (m : Market) → l.time ≡ t → l.mark ≡ side_mark z → Marked t m
    → Marked t (with_end z (Some (t + protection_period)) (with_line l m))
marked_line t Buy l m e f h =
    record {
      past = All-push _ m.tape l h.past (omega arith);
      buys = kept_new t BidDepleted m.tape l e f h.past;
      sells = kept_other t OfferDepleted m.sell_end m.tape l (λ p. let z : ◌≡◌ {A = ℕ} 0 1 = cc in omega arith) h.sells;
    }
marked_line t Sell l m e f h =
    record {
      past = All-push _ m.tape l h.past (omega arith);
      buys = kept_other t BidDepleted m.buy_end m.tape l (λ p. let z : ◌≡◌ {A = ℕ} 0 1 = cc in omega arith) h.buys;
      sells = kept_new t OfferDepleted m.tape l e f h.past;
    }

recorded_marked : (b : Bool) (t q : ℕ) (o x : Order) (m : Market) → Marked t m → Marked t (recorded b t q o x m)
recorded_marked false t q o x m h = plain_line t _ m refl refl h
recorded_marked true t q o x m h = marked_line t (side_of x) _ m refl refl h

marked_orders : (t : ℕ) (os : List Order) (m : Market) → Marked t m → Marked t (with_orders os m)
marked_orders t os m h = record { past = h.past; buys = h.buys; sells = h.sells }

marked_quote : (t b a : ℕ) (m : Market) → Marked t m → Marked t (with_quote b a m)
marked_quote t b a m h = record { past = h.past; buys = h.buys; sells = h.sells }

trade_marked : (t p : ℕ) (o x : Order) (m : Market) → Marked t m → Marked t (trade t p o x m)
unfolding trade
trade_marked t p o x m h =
    recorded_marked (depletes m x (lower x.number (traded o x) m.orders)) t (line_price m p x) o x (with_orders (after_trade o x m.orders) m)
    (marked_orders t (after_trade o x m.orders) m h)

-- a period ends at e, and everything else is not before that
ended_marked : (t e : ℕ) (s : Side) (m : Market) → end_of s m ≡ Some e → t ≤ e
    → ((z : Side) (f : ℕ) → end_of z m ≡ Some f → e ≤ f) → Marked t m → Marked e (with_end s None m)
ended_marked t e Buy m p l a h =
    record {
      past = All-weaker (λ (z : Line). z.time ≤ t) _ (λ z q. omega arith) m.tape h.past;
      buys = kept_ended t BidDepleted e m.buy_end m.tape p h.buys;
      sells = kept_later t e OfferDepleted m.sell_end m.tape l (a Sell) h.sells;
    }
ended_marked t e Sell m p l a h =
    record {
      past = All-weaker (λ (z : Line). z.time ≤ t) _ (λ z q. omega arith) m.tape h.past;
      buys = kept_later t e BidDepleted m.buy_end m.tape l (a Buy) h.buys;
      sells = kept_ended t OfferDepleted e m.sell_end m.tape p h.sells;
    }

ahead_of : (t : ℕ) (s : Side) (m : Market) (e : ℕ) → Marked t m → end_of s m ≡ Some e → t ≤ e
ahead_of t Buy m e h p = h.buys.ahead e p
ahead_of t Sell m e h p = h.sells.ahead e p

abbrev SomeTime : ℕ → Market → Type 0
SomeTime u m = (t : ℕ) × (t ≤ u) × Marked t m

end_marked : (u : ℕ) (d : Side × ℕ) (m : Market) → due u m ≡ Some d → SomeTime u m → SomeTime u (end_period d m)
unfolding end_period
end_marked u d m p h =
    let g = due_is u m d p in (
      d.1,
      g.by,
      each_keep (Marked d.1) d.1 (trade_marked d.1) (those (protected_on d.0) m.orders) (with_end d.0 None m)
          (ended_marked h.0 d.1 d.0 m g.runs (ahead_of h.0 d.0 m d.1 h.2 g.runs) g.least h.2),
    )

settle_some : (u : ℕ) (m : Market) → SomeTime u m → SomeTime u (settle u m)
unfolding settle
settle_some u m h = ends_keep (SomeTime u) u (end_marked u) (length m.orders + 2) m h

settle_marked : (t n u : ℕ) (m : Market) → t ≤ u → Marked t m → Marked u (settle u m)
settle_marked t n u m l h = up (some_time h)
  where
    up : SomeTime u (settle u m) → Marked u (settle u m)
    up g =
        record {
          past = All-weaker (λ (z : Line). z.time ≤ g.0) _ (λ z q. omega (arith, g.1)) _ g.2.past;
          buys = kept_later g.0 u BidDepleted _ _ g.1 (λ e p. omega (arith, settled u m Buy e p)) g.2.buys;
          sells = kept_later g.0 u OfferDepleted _ _ g.1 (λ e p. omega (arith, settled u m Sell e p)) g.2.sells;
        }

    some_time : Marked t m → SomeTime u (settle u m)
    some_time h = settle_some u m (t, l, h)

swept_marked : (t : ℕ) (o : Order) (m : Market) → Marked t m → Marked t (swept_in t o m)
unfolding swept_in
swept_marked t o m h = sweep_keep (Marked t) t (trade_marked t) o (joined o m) (marked_orders t _ m h)

marked_lasts : Lasts (λ t n m. Marked t m)
marked_lasts =
    record {
      fewer = λ t n k m h. marked_orders t (without k m.orders) m h;
      enter = λ t n o m _ _ h. swept_marked t o m h;
      quote = λ t n bid offer m h. each_keep (Marked t) t (trade_marked t) (those follows_quote m.orders) (with_quote bid offer m) (marked_quote t bid offer m h);
    }

pub run_marked : (bid offer room : ℕ) (cs : List Call)
    → Marked (run room cs (opened bid offer)).book.clock (run room cs (opened bid offer)).book.market
run_marked bid offer room cs =
    run_lasts (λ t n m. Marked t m) marked_lasts settle_marked room cs (opened bid offer)
    (record { past = tt; buys = none BidDepleted; sells = none OfferDepleted })
  where
    none : (k : Mark) → Kept 0 k None []
    none k = record { lapsed = tt; cause = λ u q. absurd (none_some None u refl q); ahead = λ u q. absurd (none_some None u refl q) }

pub run_later : (bid offer room : ℕ) (cs : List Call)
    → Later (run room cs (opened bid offer)).book.clock (run room cs (opened bid offer)).book.market
run_later bid offer room cs =
    run_lasts (λ t n m. Later t m) later_lasts settle_later room cs (opened bid offer)
    (elim [ Buy ↦ λ e p. absurd (none_some None e refl p) | Sell ↦ λ e p. absurd (none_some None e refl p) ])

pub cause_of : (t : ℕ) (m : Market) (s : Side) (e : ℕ) → Marked t m → end_of s m ≡ Some e → Cause (side_mark s) e m.tape
cause_of t m Buy e h p = h.buys.cause e p
cause_of t m Sell e h p = h.sells.cause e p

-- a side's period runs exactly when the tape has a line with its mark, less than 2,000 before the clock
abbrev Depleted : ℕ → Mark → List Line → Type 0
Depleted t k tape = (l : Line) × Has tape l × (l.mark ≡ k) × (t < l.time + protection_period)

kept_tells : (t : ℕ) (k : Mark) (end : Option ℕ) (tape : List Line) → Kept t k end tape → ((e : ℕ) → end ≡ Some e → t < e)
    → (is_some end ≡ true) ↔ Depleted t k tape
kept_tells t k None tape h a = (
  (λ p. absurd (let z : ◌≡◌ {A = ℕ} 0 1 = cc in omega arith)),
  λ d. absurd (omega (arith, all-has _ tape d.0 h.lapsed d.1 d.2, d.3)),
)
kept_tells t k (Some e) tape h a = (
  (λ _. let c = h.cause e refl in (c.line, cause_has k e tape c, c.mark, omega (arith, c.begins, a e refl))),
  λ _. refl,
)

pub runs_exactly : (t : ℕ) (m : Market) (s : Side) → Marked t m → Later t m → (period_runs s m ≡ true) ↔ Depleted t (side_mark s) m.tape
runs_exactly t m Buy h a = kept_tells t BidDepleted m.buy_end m.tape h.buys (a Buy)
runs_exactly t m Sell h a = kept_tells t OfferDepleted m.sell_end m.tape h.sells (a Sell)

explained : (b : Book) → Marked b.clock b.market → Later b.clock b.market → (o : Order) → is_mdo o.terms.kind ≡ true
    → (ranked_in b.market o ≡ reach_in b.market o) ↔ ((ranked_in b.market o ≡ 2 * o.terms.limit) ⊎ ((ranked_in b.market o ≡ b.market.bid + b.market.offer) ⊎ Protected b o))
explained b h a o i = (
  (λ e. there ((mdo_prices b.market o i).0 e)),
  λ e. (mdo_prices b.market o i).1 (back e),
)
  where
    m : Market
    m = b.market

    tells : (period_runs (side_of o) m ≡ true) ↔ Depleted b.clock (side_mark (side_of o)) m.tape
    tells = runs_exactly b.clock m (side_of o) h a

    there : ((ranked_in m o ≡ 2 * o.terms.limit) ⊎ ((ranked_in m o ≡ m.bid + m.offer) ⊎ ((o.terms.qdp && period_runs (side_of o) m) ≡ true)))
        → (ranked_in m o ≡ 2 * o.terms.limit) ⊎ ((ranked_in m o ≡ m.bid + m.offer) ⊎ Protected b o)
    there (inl e) = inl e
    there (inr (inl e)) = inr (inl e)
    there (inr (inr e)) = let p = and_parts o.terms.qdp (period_runs (side_of o) m) e in inr (inr (p.0, tells.0 p.1))

    back : ((ranked_in m o ≡ 2 * o.terms.limit) ⊎ ((ranked_in m o ≡ m.bid + m.offer) ⊎ Protected b o))
        → (ranked_in m o ≡ 2 * o.terms.limit) ⊎ ((ranked_in m o ≡ m.bid + m.offer) ⊎ ((o.terms.qdp && period_runs (side_of o) m) ≡ true))
    back (inl e) = inl e
    back (inr (inl e)) = inr (inl e)
    back (inr (inr e)) = inr (inr (and_from o.terms.qdp (period_runs (side_of o) m) e.0 (tells.1 e.1)))

pub tape_explains_discretion : TapeExplainsDiscretion
tape_explains_discretion bid offer room cs =
    let b : Book = (run room cs (opened bid offer)).book in
    all_in _ b.market.orders (λ o _. explained b (run_marked bid offer room cs) (run_later bid offer room cs) o)
