-- Two orders are apart when neither meets the other. A sweep leaves its taker apart from all, and calmer reaches stay apart;
-- so sweeps, one after another, strike their takers off the numbers that may still meet somebody.
-- Cite: Agree, sweep_but for one sweep, each_apart for several, each_calm.
use Rattle.std.proofs.Common.{◌≡◌, ℕ, false, eqb, ◌⊎◌, List, [], ◌∷◌, length, is_some, Some, None, sym, refl, ap, ◌∙◌, subst, inl, inr, arith}
use Rattle.std.proofs.lemmas.Bool.{lt-leb, leb-false, eqb-false, and_cases, true≢false}
use Rattle.terms.specs.Sides.{opposite, meets, same_side}
use Rattle.terms.specs.Terms.{OrderTerms}
use Rattle.terms.specs.declared.side.Side.{Side}
use Rattle.terms.specs.declared.side.Side.TheVariants.{Buy, Sell}
use Rattle.rules.specs.Market.{Market, Order, side_of, reach_in, resting}
use Rattle.rules.specs.Priority.{is_partner, partner_for}
use Rattle.rules.specs.Sweep.{sweep, lines, sweep_each}
use Rattle.rules.proofs.Calm.{Calm, lines_calm, lines_finish, calm_itself, calm_then}
use Rattle.rules.proofs.Cases.{if_both, none_some}
use Rattle.rules.proofs.Members.{In}
use Rattle.rules.proofs.Partners.{next_none}
use Rattle.rules.proofs.Prices.{Tame, reach_calms, reach_same}
use Rattle.rules.proofs.Rows.{Same}
use Rattle.rules.proofs.Sides.{opposite_twice, same_side_itself}
use Rattle.rules.proofs.Trade.{lines_end}

-- y does not meet x
abbrev pub Apart : Market → Order → Order → Type 0
Apart m x y = side_of y ≡ opposite (side_of x) → meets (side_of y) (reach_in m y) (reach_in m x) ≡ false

misses_back : (s : Side) (p q : ℕ) → meets (opposite s) q p ≡ false → meets s p q ≡ false
misses_back Buy p q e = lt-leb _ _ (leb-false _ _ e)
misses_back Sell p q e = lt-leb _ _ (leb-false _ _ e)

pub apart_back : (m : Market) (x y : Order) → Apart m x y → Apart m y x
apart_back m x y h e =
    let f : side_of y ≡ opposite (side_of x) = opposite_twice (side_of x) (side_of y) e in
    misses_back (side_of x) (reach_in m x) (reach_in m y) (subst (λ s. meets s (reach_in m y) (reach_in m x) ≡ false) f (h f))

-- calmer prices stay apart
misses_calm : (s : Side) (p q p' q' : ℕ) → Tame s p' p → Tame (opposite s) q' q → meets (opposite s) q p ≡ false → meets (opposite s) q' p' ≡ false
misses_calm Buy p q p' q' a b e = lt-leb _ _ (omega (arith, leb-false _ _ e))
misses_calm Sell p q p' q' a b e = lt-leb _ _ (omega (arith, leb-false _ _ e))

-- the reach of an order after, beside that of the order before that it is
pub calm_reach : (m r : Market) → Calm m r → (x y : Order) → Same x y → Tame (side_of x) (reach_in r y) (reach_in m x)
calm_reach m r c x y e = reach_calms m r x y e.terms (c.grows (side_of x)) c.bid c.offer

pub apart_calm : (m r : Market) → Calm m r → (x y x' y' : Order) → Same x x' → Same y y' → Apart m x y → Apart r x' y'
apart_calm m r c x y x' y' e f h o =
    let sx : side_of x ≡ side_of x' = ap (λ (w : OrderTerms). w.side) e.terms in
    let sy : side_of y ≡ side_of y' = ap (λ (w : OrderTerms). w.side) f.terms in
    let os : side_of y ≡ opposite (side_of x) = sy ∙ o ∙ ap opposite (sym sx) in
    subst (λ s. meets s (reach_in r y') (reach_in r x') ≡ false) (sym os ∙ sy)
    (misses_calm (side_of x) (reach_in m x) (reach_in m y) (reach_in r x') (reach_in r y')
    (calm_reach m r c x x' e)
    (subst (λ s. Tame s (reach_in r y') (reach_in m y)) os (calm_reach m r c y y' f))
    (subst (λ s. meets s (reach_in m y) (reach_in m x) ≡ false) os (h os)))

-- the rows with that entry number have those terms
abbrev pub Agree : List Order → Order → Type 0
Agree os o = (x : Order) → In x os → x.number ≡ o.number → x.terms ≡ o.terms

pub agree_calm : (m r : Market) → Calm m r → (o : Order) → Agree m.orders o → Agree r.orders o
agree_calm m r c o h y i e =
    let f = c.from y i in
    sym f.2.terms ∙ h f.0 f.1 (f.2.number ∙ e)

resting_none : (k : ℕ) (os : List Order) → resting k os ≡ None → (x : Order) → In x os → x.number ≡ k → ⊥
unfolding resting
resting_none k [] = λ _ x i _. i
resting_none k (o ∷ os) =
    let ih : resting k os ≡ None → (x : Order) → In x os → x.number ≡ k → ⊥ = resting_none k os in
    if_both (eqb o.number k) (Some o) (resting k os) (λ r. r ≡ None → (x : Order) → In x (o ∷ os) → x.number ≡ k → ⊥)
    (λ _ e. absurd (none_some (Some o) o e refl))
    (λ t e x i f. here_or_later x t (ih e x) i f)
  where
    here_or_later : (x : Order) → eqb o.number k ≡ false → (In x os → x.number ≡ k → ⊥) → In x (o ∷ os) → x.number ≡ k → ⊥
    here_or_later x t h (inl e) f = eqb-false o.number k t (ap (λ (z : Order). z.number) (sym e) ∙ f)
    here_or_later x t h (inr i) f = h i f

no_partner : (m : Market) (s : Side) (p : ℕ) (y : Order) → is_partner m s p y ≡ false → side_of y ≡ s → meets s (reach_in m y) p ≡ false
no_partner m s p y h e = by_part (and_cases (same_side (side_of y) s) (meets s (reach_in m y) p) h)
  where
    by_part : ((same_side (side_of y) s ≡ false) ⊎ (meets s (reach_in m y) p ≡ false)) → meets s (reach_in m y) p ≡ false
    by_part (inl f) = absurd (true≢false (sym (same_side_itself s) ∙ ap (λ z. same_side z s) (sym e) ∙ f))
    by_part (inr f) = f

pub sweep_calm : (t : ℕ) (o : Order) (m : Market) → Calm m (sweep t o m)
unfolding sweep
sweep_calm t o m = lines_calm t (reach_in m o) o (length m.orders) m

-- after its sweep an order meets nobody
pub sweep_clears : (t : ℕ) (o : Order) (m : Market) → Agree m.orders o → (x y : Order) → In x (sweep t o m).orders
    → In y (sweep t o m).orders → x.number ≡ o.number → Apart (sweep t o m) x y
unfolding sweep
sweep_clears t o m g x y i j e s = by_ending (lines_finish t (reach_in m o) o (length m.orders) m (omega arith))
  where
    r : Market
    r = lines (length m.orders) t (reach_in m o) o m

    c : Calm m r
    c = lines_calm t (reach_in m o) o (length m.orders) m

    w : x.terms ≡ o.terms
    w = agree_calm m r c o g x i e

    own : reach_in r x ≡ reach_in m o
    own = reach_same m r o x (sym w) (ap is_some (lines_end t (reach_in m o) o (length m.orders) m)) c.bid c.offer

    sides : side_of y ≡ opposite (side_of o)
    sides = s ∙ ap (λ (z : OrderTerms). opposite z.side) w

    by_ending : ((resting o.number r.orders ≡ None) ⊎ (partner_for o (reach_in m o) r ≡ None))
        → meets (side_of y) (reach_in r y) (reach_in r x) ≡ false
    by_ending (inl n) = absurd (resting_none o.number r.orders n x i e)
    by_ending (inr n) =
        subst (λ p. meets (side_of y) (reach_in r y) p ≡ false) (sym own)
        (subst (λ z. meets z (reach_in r y) (reach_in m o) ≡ false) (sym sides)
        (no_partner r (opposite (side_of o)) (reach_in m o) y (next_none r (opposite (side_of o)) (reach_in m o) r.orders n y j) sides))

abbrev pub numbers : List Order → List ℕ
numbers [] = []
numbers (o ∷ os) = o.number ∷ numbers os

-- whoever meets another has, or the other has, one of those entry numbers
abbrev pub ApartBut : List ℕ → Market → Type 0
ApartBut ks m = (x y : Order) → In x m.orders → In y m.orders → Apart m x y ⊎ (In x.number ks ⊎ In y.number ks)

pub sweep_but : (t : ℕ) (o : Order) (ks : List ℕ) (m : Market) → Agree m.orders o → ApartBut (o.number ∷ ks) m → ApartBut ks (sweep t o m)
sweep_but t o ks m g h x y i j =
    let a = (sweep_calm t o m).from x i in
    let b = (sweep_calm t o m).from y j in
    from_before a.0 b.0 a.2 b.2 (h a.0 b.0 a.1 b.1)
  where
    from_before : (v u : Order) → Same v x → Same u y
        → (Apart m v u ⊎ (In v.number (o.number ∷ ks) ⊎ In u.number (o.number ∷ ks)))
        → Apart (sweep t o m) x y ⊎ (In x.number ks ⊎ In y.number ks)
    from_before v u p q (inl f) = inl (apart_calm m (sweep t o m) (sweep_calm t o m) v u x y p q f)
    from_before v u p q (inr (inl (inl e))) = inl (sweep_clears t o m g x y i j (sym p.number ∙ e))
    from_before v u p q (inr (inl (inr k))) = inr (inl (subst (λ n. In n ks) p.number k))
    from_before v u p q (inr (inr (inl e))) = inl (apart_back (sweep t o m) y x (sweep_clears t o m g y x j i (sym q.number ∙ e)))
    from_before v u p q (inr (inr (inr k))) = inr (inr (subst (λ n. In n ks) q.number k))

pub each_calm : (t : ℕ) (os : List Order) (m : Market) → Calm m (sweep_each t os m)
unfolding sweep_each
each_calm t [] m = calm_itself m
each_calm t (o ∷ os) m = calm_then m (sweep t o m) _ (sweep_calm t o m) (each_calm t os (sweep t o m))

-- sweeping one after another leaves none that meets another
pub each_apart : (t : ℕ) (os : List Order) (m : Market) → ((o : Order) → In o os → Agree m.orders o) → ApartBut (numbers os) m
    → ApartBut [] (sweep_each t os m)
unfolding sweep_each
each_apart t [] m g h = h
each_apart t (o ∷ os) m g h =
    each_apart t os (sweep t o m) (λ z i. agree_calm m (sweep t o m) (sweep_calm t o m) z (g z (inr i)))
    (sweep_but t o (numbers os) m (g o (inl refl)) h)
