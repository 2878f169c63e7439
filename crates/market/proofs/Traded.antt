-- A line, step by step: what the rule book's trade makes of the rows once the partner, and then the taker, is lowered.
use Rattle.std.proofs.Common.{◌≡◌, ℕ, Bool, true, false, ◌&&◌, ltb, List, [], ◌∷◌, ◌++◌, sym, refl, ap, ◌∙◌}
use Rattle.terms.specs.declared.side.Side.{Side}
use Rattle.tape.specs.declared.line.Line.{Line}
use Rattle.tape.specs.declared.line.Mark.{Mark}
use Rattle.rules.specs.Limits.{round_lot}
use Rattle.rules.specs.Market.{Order, Market, side_of, ranked_in, with_orders, lower}
use Rattle.rules.specs.Priority.{line_price}
use Rattle.rules.specs.Sweep.{displayed, displayed_shares, best_displayed, depletes, traded, line_of, recorded, after_trade, trade}
use Rattle.market.specs.Trading.{mark_if, protected_if}

-- the displayed shares among some orders, whichever orders the market itself has
pub shares_still : (os ps : List Order) (m : Market) (s : Side) (r : ℕ) → displayed_shares (with_orders ps m) s r os ≡ displayed_shares m s r os
unfolding displayed_shares ranked_in
shares_still os ps m s r = refl

-- the partner stood displayed at the best price, or did not, from the two tests of the code
pub stood_shown : (d b s : Bool) → d ≡ true → s ≡ b → s ≡ (d && b)
stood_shown true b s e h = h
stood_shown false b s e h = cc

pub stood_hidden : (d b s : Bool) → d ≡ false → s ≡ d → s ≡ (d && b)
stood_hidden false b s e h = h
stood_hidden true b s e h = cc

module _ (m : Market) (x : Order) (after : List Order) (r : ℕ) (ranked : r ≡ ranked_in m x) where
  tests : (d b f : Bool) → (d && b) ≡ true → f ≡ (d && (b && f))
  tests true true f e = refl
  tests true false f e = cc
  tests false b f e = cc

  no_test : (d b f : Bool) → (d && b) ≡ false → false ≡ (d && (b && f))
  no_test true true f e = cc
  no_test true false f e = refl
  no_test false b f e = refl

  -- whether a line depletes: where the partner stood so, by what is displayed once it is lowered
  pub depletes_then : (m' : Market) (s f : Bool) (sum : ℕ) → s ≡ (displayed x.terms.kind && best_displayed m (side_of x) r m.orders) → s ≡ true
      → m' ≡ with_orders after m → sum ≡ displayed_shares m' (side_of x) r m'.orders → f ≡ ltb sum round_lot → f ≡ depletes m x after
  unfolding depletes
  depletes_then m' s f sum stood t lowered there few =
      let e : sum ≡ displayed_shares m (side_of x) r after =
      there ∙ ap (λ z. displayed_shares z (side_of x) r z.orders) lowered ∙ shares_still after after m (side_of x) r
      in
      tests (displayed x.terms.kind) (best_displayed m (side_of x) r m.orders) f (sym stood ∙ t)
      ∙ ap (λ g. displayed x.terms.kind && (best_displayed m (side_of x) r m.orders && g)) (few ∙ ap (λ n. ltb n round_lot) e)
      ∙ ap (λ q. displayed x.terms.kind && (best_displayed m (side_of x) q m.orders && ltb (displayed_shares m (side_of x) q after) round_lot)) ranked

  -- and otherwise it does not
  pub depletes_not : (s : Bool) → s ≡ (displayed x.terms.kind && best_displayed m (side_of x) r m.orders) → s ≡ false → s ≡ depletes m x after
  unfolding depletes
  depletes_not s stood f =
      f
      ∙ no_test (displayed x.terms.kind) (best_displayed m (side_of x) r m.orders) _ (sym stood ∙ f)
      ∙ ap (λ q. displayed x.terms.kind && (best_displayed m (side_of x) q m.orders && ltb (displayed_shares m (side_of x) q after) round_lot)) ranked

-- the market with other lines on its tape
abbrev pub retaped : List Line → Market → Market
retaped tape m =
    record { orders = m.orders; bid = m.bid; offer = m.offer; buy_end = m.buy_end; sell_end = m.sell_end; tape = tape }

depletes_still : (tape : List Line) (m : Market) (x : Order) (after : List Order) → depletes m x after ≡ depletes (retaped tape m) x after
unfolding depletes best_displayed displayed_shares ranked_in
depletes_still tape m x after = refl

price_still : (tape : List Line) (m : Market) (p : ℕ) (x : Order) → line_price m p x ≡ line_price (retaped tape m) p x
unfolding ranked_in
price_still tape m p x = refl

-- the line is written last, the period begun before: that makes no difference
written_last : (d : Bool) (t price : ℕ) (o x : Order) (os : List Order) (tape : List Line) (m : Market) → protected_if d t (side_of x) (with_orders os (retaped (tape ++ (line_of t price (mark_if d (side_of x)) o x ∷ [])) m)) ≡ recorded d t price o x (with_orders os (retaped tape m))
written_last false t price o x os tape m = refl
written_last true t price o x os tape m = refl

module _ (t p : ℕ) (o x : Order) (m : Market) (tape : List Line) where
  whole : (d : Bool) (price : ℕ) → d ≡ depletes m x (lower x.number (traded o x) m.orders) → price ≡ line_price m p x → protected_if d t (side_of x) (with_orders (after_trade o x m.orders) (retaped (tape ++ (line_of t price (mark_if d (side_of x)) o x ∷ [])) m)) ≡ trade t p o x (retaped tape m)
  unfolding trade
  whole d price e k =
      written_last d t price o x (after_trade o x m.orders) tape m
      ∙ ap (λ z. recorded z t price o x (with_orders (after_trade o x m.orders) (retaped tape m))) (e ∙ depletes_still tape m x (lower x.number (traded o x) m.orders))
      ∙ ap (λ z. recorded (depletes (retaped tape m) x (lower x.number (traded o x) m.orders)) t z o x (with_orders (after_trade o x m.orders) (retaped tape m))) (k ∙ price_still tape m p x)

  -- the rule book's line, from the steps of the code
  pub trade_is : (d : Bool) (n price : ℕ) (mark : Mark) → n ≡ traded o x → d ≡ depletes m x (lower x.number n m.orders) → price ≡ line_price m p x → mark ≡ mark_if d (side_of x) → protected_if d t (side_of x) (with_orders (lower o.number n (lower x.number n m.orders)) (retaped (tape ++ (record { time = t; partner = x.number; taker = o.number; shares = n; price = price; mark = mark } ∷ [])) m)) ≡ trade t p o x (retaped tape m)
  trade_is d n price mark shares deplete at marked =
      ap (λ z. protected_if d t (side_of x) (with_orders (lower o.number n (lower x.number n m.orders)) (retaped (tape ++ (record { time = t; partner = x.number; taker = o.number; shares = n; price = price; mark = z } ∷ [])) m))) marked
      ∙ ap (λ z. protected_if d t (side_of x) (with_orders (lower o.number z (lower x.number z m.orders)) (retaped (tape ++ (record { time = t; partner = x.number; taker = o.number; shares = z; price = price; mark = mark_if d (side_of x) } ∷ [])) m))) shares
      ∙ whole d price (deplete ∙ ap (λ z. depletes m x (lower x.number z m.orders)) shares) at
