-- The laws of the reach: what it depends on, that a period that begins makes it no more aggressive, and when it is the
-- ranked price. No other file looks into `ranked_in` and `reach_in`. By cases of the kind, once, over `reach_as`.
-- Cite: reach_same, reach_calms, reach_unprotected, reach_unpegged, mdo_prices.
use Rattle.std.proofs.Common.{◌≡◌, ℕ, ◌+◌, ◌*◌, ◌<◌, ◌≤◌, min, max, Bool, true, false, ◌&&◌, ◌⊎◌, ◌↔◌, sym, refl, ap, ◌∙◌, subst, inl, inr, arith}
use Rattle.std.proofs.lemmas.Bool.{true≢false, cases_lt}
use Rattle.std.specs.Prelude.{if◌then◌else◌}
use Rattle.terms.specs.Prices.{ranked, ranked_as, limit_or_midpoint, reach_with_discretion, peg}
use Rattle.terms.specs.Sides.{tamer}
use Rattle.terms.specs.Terms.{OrderTerms, is_mdo}
use Rattle.terms.specs.declared.kind.Kind.{Kind}
use Rattle.terms.specs.declared.kind.Kind.TheVariants.{DisplayedLimit, HiddenLimit, DisplayedMdo, HiddenMdo, MidpointPeg}
use Rattle.terms.specs.declared.side.Side.{Side}
use Rattle.terms.specs.declared.side.Side.TheVariants.{Buy, Sell}
use Rattle.rules.specs.Calls.{pegged}
use Rattle.rules.specs.Market.{Order, Market, reach_in, period_runs, side_of, ranked_in}

-- p is no more aggressive than q for an order of the side
abbrev pub Tame : Side → ℕ → ℕ → Type 0
Tame Buy p q = p ≤ q
Tame Sell p q = q ≤ p

-- how far terms of a kind reach with discretion
abbrev full_reach : Kind → OrderTerms → ℕ → ℕ → ℕ
full_reach DisplayedLimit w bid offer = ranked_as DisplayedLimit w bid offer
full_reach HiddenLimit w bid offer = ranked_as HiddenLimit w bid offer
full_reach DisplayedMdo w bid offer = limit_or_midpoint w bid offer
full_reach HiddenMdo w bid offer = limit_or_midpoint w bid offer
full_reach MidpointPeg w bid offer = ranked_as MidpointPeg w bid offer

-- how far they reach, where discretion is off or not
abbrev reach_as : Kind → OrderTerms → Bool → ℕ → ℕ → ℕ
reach_as k w off bid offer = if off then ranked_as k w bid offer else full_reach k w bid offer

discretion_is : (k : Kind) (w : OrderTerms) (bid offer : ℕ) → w.kind ≡ k → reach_with_discretion k w bid offer ≡ full_reach k w bid offer
discretion_is DisplayedLimit w bid offer e = ap (λ k. ranked_as k w bid offer) e
discretion_is HiddenLimit w bid offer e = ap (λ k. ranked_as k w bid offer) e
discretion_is DisplayedMdo w bid offer e = refl
discretion_is HiddenMdo w bid offer e = refl
discretion_is MidpointPeg w bid offer e = ap (λ k. ranked_as k w bid offer) e

reach_is : (m : Market) (x : Order)
    → reach_in m x ≡ reach_as x.terms.kind x.terms (x.terms.qdp && period_runs (side_of x) m) m.bid m.offer
unfolding reach_in
reach_is m x =
    ap (λ n. if x.terms.qdp && period_runs (side_of x) m then ranked x.terms m.bid m.offer else n)
    (discretion_is x.terms.kind x.terms m.bid m.offer refl)

-- the reach at another quote that is the same, of an order with the same terms
reach_at : (m r : Market) (x y : Order) → x.terms ≡ y.terms → r.bid ≡ m.bid → r.offer ≡ m.offer
    → reach_in r y ≡ reach_as x.terms.kind x.terms (x.terms.qdp && period_runs (side_of x) r) m.bid m.offer
reach_at m r x y e f g =
    reach_is r y
    ∙ ap (λ w. reach_as w.kind w (w.qdp && period_runs w.side r) r.bid r.offer) (sym e)
    ∙ ap (λ b. reach_as x.terms.kind x.terms (x.terms.qdp && period_runs (side_of x) r) b r.offer) f
    ∙ ap (λ a. reach_as x.terms.kind x.terms (x.terms.qdp && period_runs (side_of x) r) m.bid a) g

-- the reach depends on terms, quote and whether the side's period runs, and on nothing else
pub reach_same : (m r : Market) (x y : Order) → x.terms ≡ y.terms → period_runs (side_of x) r ≡ period_runs (side_of x) m
    → r.bid ≡ m.bid → r.offer ≡ m.offer → reach_in r y ≡ reach_in m x
reach_same m r x y e h f g =
    reach_at m r x y e f g
    ∙ ap (λ v. reach_as x.terms.kind x.terms (x.terms.qdp && v) m.bid m.offer) h
    ∙ sym (reach_is m x)

tame_itself : (s : Side) (p : ℕ) → Tame s p p
tame_itself Buy p = omega arith
tame_itself Sell p = omega arith

tame_tamer : (s : Side) (p q : ℕ) → Tame s (tamer s p q) q
tame_tamer Buy p q = omega arith
tame_tamer Sell p q = omega arith

-- the ranked price is no more aggressive than the reach with discretion
ranked_tame : (k : Kind) (w : OrderTerms) (bid offer : ℕ) → Tame w.side (ranked_as k w bid offer) (full_reach k w bid offer)
ranked_tame DisplayedLimit w bid offer = tame_itself w.side _
ranked_tame HiddenLimit w bid offer = tame_itself w.side _
ranked_tame DisplayedMdo w bid offer = tame_tamer w.side _ (limit_or_midpoint w bid offer)
ranked_tame HiddenMdo w bid offer = tame_tamer w.side _ (limit_or_midpoint w bid offer)
ranked_tame MidpointPeg w bid offer = tame_itself w.side _

off_tame : (k : Kind) (w : OrderTerms) (qdp before after : Bool) (bid offer : ℕ) → (before ≡ true → after ≡ true)
    → Tame w.side (reach_as k w (qdp && after) bid offer) (reach_as k w (qdp && before) bid offer)
off_tame k w false before after bid offer h = tame_itself w.side _
off_tame k w true true true bid offer h = tame_itself w.side _
off_tame k w true false false bid offer h = tame_itself w.side _
off_tame k w true false true bid offer h = ranked_tame k w bid offer
off_tame k w true true false bid offer h = absurd (true≢false (sym (h refl)))

-- a period that begins makes no reach more aggressive
pub reach_calms : (m r : Market) (x y : Order) → x.terms ≡ y.terms
    → (period_runs (side_of x) m ≡ true → period_runs (side_of x) r ≡ true) → r.bid ≡ m.bid → r.offer ≡ m.offer
    → Tame (side_of x) (reach_in r y) (reach_in m x)
reach_calms m r x y e h f g =
    subst (λ p. Tame (side_of x) p (reach_in m x)) (sym (reach_at m r x y e f g))
    (subst (λ q. Tame (side_of x) (reach_as x.terms.kind x.terms (x.terms.qdp && period_runs (side_of x) r) m.bid m.offer) q) (sym (reach_is m x))
    (off_tame x.terms.kind x.terms x.terms.qdp (period_runs (side_of x) m) (period_runs (side_of x) r) m.bid m.offer h))

-- without QDP no period matters
pub reach_unprotected : (m r : Market) (x : Order) → x.terms.qdp ≡ false → r.bid ≡ m.bid → r.offer ≡ m.offer → reach_in r x ≡ reach_in m x
reach_unprotected m r x e f g =
    reach_at m r x x refl f g
    ∙ ap (λ v. reach_as x.terms.kind x.terms (v && period_runs (side_of x) r) m.bid m.offer) e
    ∙ ap (λ v. reach_as x.terms.kind x.terms (v && period_runs (side_of x) m) m.bid m.offer) (sym e)
    ∙ sym (reach_is m x)

-- a limit order does not follow the quote
pub reach_unpegged : (m r : Market) (x : Order) → pegged x.terms.kind ≡ false
    → period_runs (side_of x) r ≡ period_runs (side_of x) m → reach_in r x ≡ reach_in m x
reach_unpegged m r x e h =
    reach_is r x
    ∙ ap (λ v. reach_as x.terms.kind x.terms (x.terms.qdp && v) r.bid r.offer) h
    ∙ by_kind x.terms.kind (x.terms.qdp && period_runs (side_of x) m) e
    ∙ sym (reach_is m x)
  where
    by_kind : (k : Kind) (off : Bool) → pegged k ≡ false
        → reach_as k x.terms off r.bid r.offer ≡ reach_as k x.terms off m.bid m.offer
    by_kind DisplayedLimit off e = refl
    by_kind HiddenLimit off e = refl
    by_kind DisplayedMdo off e = cc
    by_kind HiddenMdo off e = cc
    by_kind MidpointPeg off e = cc

-- When the two prices of an MDO are one

tamer_one : (s : Side) (p q : ℕ) → (tamer s p q ≡ p) ⊎ (tamer s p q ≡ q)
tamer_one Buy p q = by_order (cases_lt p q)
  where
    by_order : ((p < q) ⊎ (q ≤ p)) → (min p q ≡ p) ⊎ (min p q ≡ q)
    by_order (inl l) = inl (omega arith)
    by_order (inr l) = inr (omega arith)
tamer_one Sell p q = by_order (cases_lt p q)
  where
    by_order : ((p < q) ⊎ (q ≤ p)) → (max p q ≡ p) ⊎ (max p q ≡ q)
    by_order (inl l) = inr (omega arith)
    by_order (inr l) = inl (omega arith)

-- g is the peg, l the limit, d the midpoint
at_limit : (s : Side) (g l d : ℕ) → tamer s g (tamer s l d) ≡ l → tamer s g (tamer s l d) ≡ tamer s l d
at_limit Buy g l d e = omega arith
at_limit Sell g l d e = omega arith

at_midpoint : (s : Side) (g l d : ℕ) → tamer s g (tamer s l d) ≡ d → tamer s g (tamer s l d) ≡ tamer s l d
at_midpoint Buy g l d e = omega arith
at_midpoint Sell g l d e = omega arith

-- discretion off or on
off_or_on : (off : Bool) (s : Side) (g l d : ℕ)
    → (tamer s g (tamer s l d) ≡ (if off then tamer s g (tamer s l d) else tamer s l d)) ↔ ((tamer s g (tamer s l d) ≡ l) ⊎ ((tamer s g (tamer s l d) ≡ d) ⊎ (off ≡ true)))
off_or_on true s g l d = ((λ _. inr (inr refl)), λ _. refl)
off_or_on false s g l d = (
  (λ e. one (tamer_one s l d) e),
  elim [ inl e ↦ at_limit s g l d e | inr z ↦ rest z ],
)
  where
    one : ((tamer s l d ≡ l) ⊎ (tamer s l d ≡ d)) → tamer s g (tamer s l d) ≡ tamer s l d
        → (tamer s g (tamer s l d) ≡ l) ⊎ ((tamer s g (tamer s l d) ≡ d) ⊎ (false ≡ true))
    one (inl p) e = inl (e ∙ p)
    one (inr p) e = inr (inl (e ∙ p))

    rest : ((tamer s g (tamer s l d) ≡ d) ⊎ (false ≡ true)) → tamer s g (tamer s l d) ≡ tamer s l d
    rest (inl e) = at_midpoint s g l d e
    rest (inr e) = cc

-- p ranked price, q reach: they are one exactly if the order ranks at its limit or the midpoint, or discretion is off
abbrev pub OnePrice : Market → Order → ℕ → ℕ → Type 0
OnePrice m o p q = (p ≡ q) ↔ ((p ≡ 2 * o.terms.limit) ⊎ ((p ≡ m.bid + m.offer) ⊎ ((o.terms.qdp && period_runs (side_of o) m) ≡ true)))

pub mdo_prices : (m : Market) (o : Order) → is_mdo o.terms.kind ≡ true → OnePrice m o (ranked_in m o) (reach_in m o)
unfolding ranked_in
mdo_prices m o i =
    subst (OnePrice m o (ranked_as o.terms.kind o.terms m.bid m.offer)) (sym (reach_is m o)) (by_kind o.terms.kind i)
  where
    off : Bool
    off = o.terms.qdp && period_runs (side_of o) m

    by_kind : (k : Kind) → is_mdo k ≡ true
        → OnePrice m o (ranked_as k o.terms m.bid m.offer) (reach_as k o.terms off m.bid m.offer)
    by_kind DisplayedLimit e = absurd (true≢false (sym e))
    by_kind HiddenLimit e = absurd (true≢false (sym e))
    by_kind DisplayedMdo e = off_or_on off (side_of o) (peg (side_of o) m.bid m.offer o.terms.offset) (2 * o.terms.limit) (m.bid + m.offer)
    by_kind HiddenMdo e = off_or_on off (side_of o) (peg (side_of o) m.bid m.offer o.terms.offset) (2 * o.terms.limit) (m.bid + m.offer)
    by_kind MidpointPeg e = absurd (true≢false (sym e))
