-- The bounds on the reaches of each side. Cite: within_pushed as a row joins, within_removed as one goes, within_set as one is
-- changed in its shares, nobody_reaches where not even the bound meets the taker's price.
use Rattle.std.proofs.Common.{◌≡◌, ℕ, suc, ◌<◌, Bool, true, false, cond, ◌&&◌, List, [], ◌∷◌, ◌++◌, length, get_or, set, take, drop, Some, None, fold, leb, sym, refl, ap, ◌∙◌, subst, inl, inr, arith}
use Rattle.std.proofs.lemmas.Bool.{leb-true, leb-false, le-leb, lt-leb, and_parts, and_from, cases_Bool}
use Rattle.std.proofs.lemmas.List.Elements.{All-push, All-weaker, All-append, All-take, All-drop, All-head, All-tail, All-set, All-get_or}
use Rattle.std.specs.List.{remove}
use Rattle.terms.specs.declared.side.Side.{Side}
use Rattle.terms.specs.declared.side.Side.TheVariants.{Buy, Sell}
use Rattle.terms.specs.declared.quote.Quote.{Quote}
use Rattle.terms.specs.declared.per_side.PerSide.{PerSide}
use Rattle.terms.specs.PerSide.{of_side}
use Rattle.terms.specs.Sides.{same_side, meets}
use Rattle.rules.specs.Market.{reach_in, period_runs}
use Rattle.rules.specs.Priority.{is_partner, better_of, next_partner}
use Rattle.rules.proofs.Cases.{if_false}
use Rattle.market.specs.declared.table.Row.{Row}
use Rattle.market.specs.declared.table.Table.{Table}
use Rattle.market.specs.Changes.{with_left}
use Rattle.market.specs.Rows.{row_order, rests, orders_in}
use Rattle.market.specs.Seen.{seen}
use Rattle.market.specs.Reaches.{ranked_at, far_at, within, AllWithin, widened_by}
use Rattle.market.proofs.Found.{orders_in_resting, orders_in_spent}
use Rattle.market.proofs.Joined.{orders_in_none}

wider : (s z : Side) (p q r : ℕ) (f : PerSide ℕ) → meets z (of_side z f) r ≡ true → meets z (of_side z (widened_by s p q f)) r ≡ true
wider Buy Buy p q r f e = le-leb r _ (omega (arith, leb-true r f.buy e))
wider Buy Sell p q r f e = e
wider Sell Buy p q r f e = e
wider Sell Sell p q r f e = le-leb _ r (omega (arith, leb-true f.sell r e))

near : (s : Side) (p q : ℕ) (f : PerSide ℕ) → meets s (of_side s (widened_by s p q f)) p ≡ true
near Buy p q f = le-leb p _ (omega arith)
near Sell p q f = le-leb _ p (omega arith)

far : (s : Side) (p q : ℕ) (f : PerSide ℕ) → meets s (of_side s (widened_by s p q f)) q ≡ true
far Buy p q f = le-leb q _ (omega arith)
far Sell p q f = le-leb _ q (omega arith)

module _ (q : Quote) where
  pub within_pushed : (f f' : PerSide ℕ) (rs rs' : List Row) (r : Row) → f' ≡ widened_by r.terms.side (ranked_at q r) (far_at q r) f → rs' ≡ rs ++ (r ∷ []) → AllWithin q f rs → AllWithin q f' rs'
  within_pushed f f' rs rs' r wide more h =
      let f'' : PerSide ℕ = widened_by r.terms.side (ranked_at q r) (far_at q r) f in
      let others : AllWithin q f'' rs =
      All-weaker (λ t. within q f t ≡ true) (λ t. within q f'' t ≡ true)
      (λ t e. let parts = and_parts _ _ e in and_from _ _ (wider r.terms.side t.terms.side _ _ (ranked_at q t) f parts.0) (wider r.terms.side t.terms.side _ _ (far_at q t) f parts.1))
      rs h
      in
      subst (λ g. AllWithin q g rs') (sym wide)
      (subst (AllWithin q f'') (sym more)
      (All-push (λ t. within q f'' t ≡ true) rs r others (and_from _ _ (near r.terms.side (ranked_at q r) (far_at q r) f) (far r.terms.side (ranked_at q r) (far_at q r) f))))

  pub within_removed : (f : PerSide ℕ) (rs rs' : List Row) (i : ℕ) → rs' ≡ remove rs i → AllWithin q f rs → AllWithin q f rs'
  within_removed f rs rs' i e h =
      let P = λ (r : Row). within q f r ≡ true in
      subst (AllWithin q f) (sym e) (All-append P (take i rs) (drop (suc i) rs) (All-take P i rs h) (All-drop P (suc i) rs h))

  pub within_set : (f : PerSide ℕ) (rs : List Row) (i : ℕ) (r : Row) (left : ℕ) → i < length rs → r ≡ get_or rs i r → AllWithin q f rs → AllWithin q f (set rs i (with_left left r))
  within_set f rs i r left lt is h =
      let P = λ (x : Row). within q f x ≡ true in
      All-set P rs i (with_left left r) (ap (within q f) is ∙ All-get_or P rs i r lt h) h

discretion : (qdp runs : Bool) (a b : ℕ) → cond (qdp && runs) a (cond (qdp && false) a b) ≡ cond (qdp && runs) a b
discretion true true a b = refl
discretion true false a b = refl
discretion false runs a b = refl

reaches : (t : Table) (r : Row) → cond (r.terms.qdp && period_runs r.terms.side (seen t)) (ranked_at t.quote r) (far_at t.quote r) ≡ reach_in (seen t) (row_order r)
unfolding reach_in
reaches t r = discretion r.terms.qdp _ _ _

-- a price that falls short of the bound meets no order's reach
short : (z s : Side) (off : Bool) (f : PerSide ℕ) (a b reach p : ℕ) → (meets z (of_side z f) a && meets z (of_side z f) b) ≡ true → meets s (of_side s f) p ≡ false
    → cond off a b ≡ reach → (same_side z s && meets s reach p) ≡ false
short Buy Sell off f a b reach p h e r = refl
short Sell Buy off f a b reach p h e r = refl
short Buy Buy true f a b reach p h e r = lt-leb p reach (omega (arith, leb-true a f.buy (and_parts (leb a f.buy) (leb b f.buy) h).0, leb-false p f.buy e))
short Buy Buy false f a b reach p h e r = lt-leb p reach (omega (arith, leb-true b f.buy (and_parts (leb a f.buy) (leb b f.buy) h).1, leb-false p f.buy e))
short Sell Sell true f a b reach p h e r = lt-leb reach p (omega (arith, leb-true f.sell a (and_parts (leb f.sell a) (leb f.sell b) h).0, leb-false f.sell p e))
short Sell Sell false f a b reach p h e r = lt-leb reach p (omega (arith, leb-true f.sell b (and_parts (leb f.sell a) (leb f.sell b) h).1, leb-false f.sell p e))

module _ (t : Table) (s : Side) (p : ℕ) (e : meets s (of_side s t.farthest) p ≡ false) where
  none : (rs : List Row) → AllWithin t.quote t.farthest rs → fold (better_of (seen t) s p) None (orders_in rs) ≡ None
  none [] h = ap (fold (better_of (seen t) s p) None) orders_in_none
  none (r ∷ rs) h =
      let P = λ (x : Row). within t.quote t.farthest x ≡ true in
      let rest = none rs (All-tail P r rs h) in
      let not : is_partner (seen t) s p (row_order r) ≡ false = short r.terms.side s _ t.farthest _ _ _ p (All-head P r rs h) e (reaches t r) in
      elim (cases_Bool (rests r)) [
        | inl u ↦ ap (fold (better_of (seen t) s p) None) (orders_in_resting r rs u)
            ∙ ap (λ z. fold (better_of (seen t) s p) z (orders_in rs)) (if_false (is_partner (seen t) s p (row_order r)) (Some (row_order r)) None not)
            ∙ rest
        | inr u ↦ ap (fold (better_of (seen t) s p) None) (orders_in_spent r rs u) ∙ rest
      ]

  pub nobody_reaches : (rs : List Row) → AllWithin t.quote t.farthest rs → next_partner (seen t) s p (orders_in rs) ≡ None
  unfolding next_partner
  nobody_reaches rs h = none rs h
