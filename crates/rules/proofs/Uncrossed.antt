-- After every run no resting order meets one of the other side. Each call sweeps all orders whose reach it made more
-- aggressive: those that follow the quote, those that a period restrained, the one entered. The law is never_crossed.
-- Cite: Orderly, run_orderly, settle_orderly, end_orderly, orderly_lasts.
use Rattle.std.proofs.Common.{◌≡◌, ℕ, ◌+◌, ◌<◌, ◌≤◌, Bool, true, false, eqb, ◌⊎◌, List, [], ◌∷◌, length, is_some, None, Option, sym, refl, ap, ◌∙◌, subst, inl, inr, arith}
use Rattle.std.proofs.lemmas.Bool.{cases_Bool, and_cases, leb-false}
use Rattle.terms.specs.Sides.{meets, same_side, opposite}
use Rattle.terms.specs.declared.side.Side.{Side}
use Rattle.terms.specs.declared.side.Side.TheVariants.{Buy, Sell}
use Rattle.rules.specs.Calls.{follows_quote, swept_in, joined, Call}
use Rattle.rules.specs.Clock.{end_period, protected_on, settle}
use Rattle.rules.specs.Laws.{NeverCrossed}
use Rattle.rules.specs.Market.{Order, Market, those, reach_in, side_of, end_of, with_end, period_runs, with_quote, with_orders, without, Book}
use Rattle.rules.specs.Runs.{run, opened}
use Rattle.rules.specs.Sweep.{sweep, sweep_each}
use Rattle.rules.proofs.Apart.{Agree, ApartBut, Apart, numbers, each_apart, each_calm, sweep_but, sweep_calm}
use Rattle.rules.proofs.Calm.{Calm}
use Rattle.rules.proofs.Cases.{if_both}
use Rattle.rules.proofs.Lasting.{ends_keep, Lasts, run_lasts}
use Rattle.rules.proofs.Members.{In, in_push, all_in}
use Rattle.rules.proofs.Prices.{reach_unprotected, reach_same, reach_unpegged}

-- one entry number has one set of terms, none is above the count, and no order meets another
pub record Orderly (n : ℕ) (m : Market) : Type 0 where
  pub agree : (x : Order) → In x m.orders → Agree m.orders x
  pub few : (x : Order) → In x m.orders → x.number ≤ n
  pub apart : ApartBut [] m

pub those_from : (f : Order → Bool) (os : List Order) (x : Order) → In x (those f os) → In x os
unfolding those
those_from f [] x = λ i. i
those_from f (o ∷ os) x =
    let ih : In x (those f os) → In x os = those_from f os x in
    if_both (f o) (o ∷ those f os) (those f os) (λ r. In x r → In x (o ∷ os))
    (λ _. elim [ inl e ↦ inl e | inr i ↦ inr (ih i) ]) (λ _ i. inr (ih i))

those_has : (f : Order → Bool) (os : List Order) (x : Order) → f x ≡ true → In x os → In x.number (numbers (those f os))
unfolding those
those_has f [] x e = λ i. i
those_has f (o ∷ os) x e =
    let ih : In x os → In x.number (numbers (those f os)) = those_has f os x e in
    if_both (f o) (o ∷ those f os) (those f os) (λ r. In x (o ∷ os) → In x.number (numbers r))
    (λ _. elim [ inl p ↦ inl (ap (λ (z : Order). z.number) p) | inr i ↦ inr (ih i) ])
    (λ t. elim [ inl p ↦ absurd (clash (f o) t (ap f (sym p) ∙ e)) | inr i ↦ ih i ])
  where
    clash : (b : Bool) → b ≡ false → b ≡ true → ⊥
    clash b p q = let z : ◌≡◌ {A = ℕ} 0 1 = cc in omega arith

-- where the reach of every order outside a test is as it was, only those in it can meet another
sweep_those : (t : ℕ) (f : Order → Bool) (n : ℕ) (m r : Market) → r.orders ≡ m.orders
    → ((x : Order) → f x ≡ false → reach_in r x ≡ reach_in m x)
    → Orderly n m → Orderly n (sweep_each t (those f m.orders) r)
sweep_those t f n m r e h g =
    record {
      agree = λ x i y j. agree_after x i y j;
      few = λ x i. let a = c.from x i in subst (λ k. k ≤ n) a.2.number (g.few a.0 (at_m a.0 a.1));
      apart = each_apart t (those f m.orders) r (λ o i. subst (λ os. Agree os o) (sym e) (g.agree o (those_from f m.orders o i))) but;
    }
  where
    c : Calm r (sweep_each t (those f m.orders) r)
    c = each_calm t (those f m.orders) r

    at_m : (x : Order) → In x r.orders → In x m.orders
    at_m x i = subst (λ os. In x os) e i

    agree_after : (x : Order) → In x (sweep_each t (those f m.orders) r).orders → Agree (sweep_each t (those f m.orders) r).orders x
    agree_after x i y j q =
        let a = c.from x i in
        let b = c.from y j in
        sym b.2.terms ∙ g.agree a.0 (at_m a.0 a.1) b.0 (at_m b.0 b.1) (b.2.number ∙ q ∙ sym a.2.number) ∙ a.2.terms

    but : ApartBut (numbers (those f m.orders)) r
    but x y i j = by_test (cases_Bool (f x)) (cases_Bool (f y)) (g.apart x y (at_m x i) (at_m y j))
      where
        by_test : ((f x ≡ true) ⊎ (f x ≡ false)) → ((f y ≡ true) ⊎ (f y ≡ false)) → (Apart m x y ⊎ (⊥ ⊎ ⊥))
            → Apart r x y ⊎ (In x.number (numbers (those f m.orders)) ⊎ In y.number (numbers (those f m.orders)))
        by_test (inl p) q a = inr (inl (those_has f m.orders x p (at_m x i)))
        by_test (inr p) (inl q) a = inr (inr (those_has f m.orders y q (at_m y j)))
        by_test (inr p) (inr q) (inl a) = inl (λ s. subst (λ v. meets (side_of y) v (reach_in r x) ≡ false) (sym (h y q)) (subst (λ v. meets (side_of y) (reach_in m y) v ≡ false) (sym (h x p)) (a s)))
        by_test (inr p) (inr q) (inr z) = absurd (elim z [ inl v ↦ v | inr v ↦ v ])

-- the end of a period
other_end : (z s : Side) (e : Option ℕ) (m : Market) → same_side z s ≡ false → end_of z (with_end s e m) ≡ end_of z m
other_end Buy Sell e m h = refl
other_end Sell Buy e m h = refl
other_end Buy Buy e m h = cc
other_end Sell Sell e m h = cc

pub end_orderly : (n : ℕ) (d : Side × ℕ) (m : Market) → Orderly n m → Orderly n (end_period d m)
unfolding end_period
end_orderly n d m = sweep_those d.1 (protected_on d.0) n m (with_end d.0 None m) (same_orders d.0) (λ x e. as_it_was x (and_cases x.terms.qdp (same_side (side_of x) d.0) e))
  where
    same_orders : (s : Side) → (with_end s None m).orders ≡ m.orders
    same_orders Buy = refl
    same_orders Sell = refl

    same_bid : (s : Side) → (with_end s None m).bid ≡ m.bid
    same_bid Buy = refl
    same_bid Sell = refl

    same_offer : (s : Side) → (with_end s None m).offer ≡ m.offer
    same_offer Buy = refl
    same_offer Sell = refl

    as_it_was : (x : Order) → ((x.terms.qdp ≡ false) ⊎ (same_side (side_of x) d.0 ≡ false)) → reach_in (with_end d.0 None m) x ≡ reach_in m x
    as_it_was x (inl e) = reach_unprotected m (with_end d.0 None m) x e (same_bid d.0) (same_offer d.0)
    as_it_was x (inr e) = reach_same m (with_end d.0 None m) x x refl (ap is_some (other_end (side_of x) d.0 None m e)) (same_bid d.0) (same_offer d.0)

pub settle_orderly : (n t : ℕ) (m : Market) → Orderly n m → Orderly n (settle t m)
unfolding settle
settle_orderly n t m h = ends_keep (Orderly n) t (λ d r _. end_orderly n d r) (length m.orders + 2) m h

-- a quote
period_runs_quote : (s : Side) (b a : ℕ) (m : Market) → period_runs s (with_quote b a m) ≡ period_runs s m
period_runs_quote Buy b a m = refl
period_runs_quote Sell b a m = refl

quote_orderly : (n t b a : ℕ) (m : Market) → Orderly n m → Orderly n (sweep_each t (those follows_quote m.orders) (with_quote b a m))
quote_orderly n t b a m =
    sweep_those t follows_quote n m (with_quote b a m) refl
    (λ x e. reach_unpegged m (with_quote b a m) x e (period_runs_quote (side_of x) b a m))

-- fewer rows
period_runs_orders : (s : Side) (os : List Order) (m : Market) → period_runs s (with_orders os m) ≡ period_runs s m
period_runs_orders Buy os m = refl
period_runs_orders Sell os m = refl

pub reach_orders : (os : List Order) (m : Market) (x : Order) → reach_in (with_orders os m) x ≡ reach_in m x
reach_orders os m x = reach_same m (with_orders os m) x x refl (period_runs_orders (side_of x) os m) refl refl

apart_orders : (os : List Order) (m : Market) (x y : Order) → Apart m x y → Apart (with_orders os m) x y
apart_orders os m x y h s =
    subst (λ v. meets (side_of y) v (reach_in (with_orders os m) x) ≡ false) (sym (reach_orders os m y))
    (subst (λ v. meets (side_of y) (reach_in m y) v ≡ false) (sym (reach_orders os m x)) (h s))

nobody : (m : Market) (x y : Order) → Apart m x y ⊎ (⊥ ⊎ ⊥) → Apart m x y
nobody m x y (inl a) = a
nobody m x y (inr (inl z)) = absurd z
nobody m x y (inr (inr z)) = absurd z

part_orderly : (n : ℕ) (os : List Order) (m : Market) → ((x : Order) → In x os → In x m.orders) → Orderly n m → Orderly n (with_orders os m)
part_orderly n os m f g =
    record {
      agree = λ x i y j. g.agree x (f x i) y (f y j);
      few = λ x i. g.few x (f x i);
      apart = λ x y i j. inl (apart_orders os m x y (nobody m x y (g.apart x y (f x i) (f y j))));
    }

without_from : (k : ℕ) (os : List Order) (x : Order) → In x (without k os) → In x os
unfolding without
without_from k [] x = λ i. i
without_from k (o ∷ os) x =
    let ih : In x (without k os) → In x os = without_from k os x in
    if_both (eqb o.number k) (without k os) (o ∷ without k os) (λ r. In x r → In x (o ∷ os))
    (λ _ i. inr (ih i)) (λ _. elim [ inl e ↦ inl e | inr i ↦ inr (ih i) ])

enter_orderly : (n t : ℕ) (o : Order) (m : Market) → o.number ≡ n + 1 → Orderly n m → Orderly (n + 1) (swept_in t o m)
unfolding swept_in
enter_orderly n t o m e g =
    record {
      agree = λ x i y j. after x i y j;
      few = λ x i. let a = c.from x i in subst (λ k. k ≤ n + 1) a.2.number (most a.0 (in_push m.orders o a.0 a.1));
      apart = sweep_but t o [] (joined o m) (λ x i. agree_new x (in_push m.orders o x i)) (λ x y i j. but x y (in_push m.orders o x i) (in_push m.orders o y j));
    }
  where
    c : Calm (joined o m) (sweep t o (joined o m))
    c = sweep_calm t o (joined o m)

    num : (x : Order) → x ≡ o → x.number ≡ n + 1
    num x p = ap (λ (z : Order). z.number) p ∙ e

    most : (x : Order) → (In x m.orders ⊎ (x ≡ o)) → x.number ≤ n + 1
    most x (inl i) = omega (arith, g.few x i)
    most x (inr p) = omega (arith, num x p)

    agree_new : (x : Order) → (In x m.orders ⊎ (x ≡ o)) → x.number ≡ o.number → x.terms ≡ o.terms
    agree_new x (inl i) q = absurd (omega (arith, g.few x i))
    agree_new x (inr p) q = ap (λ (z : Order). z.terms) p

    both : (x y : Order) → (In x m.orders ⊎ (x ≡ o)) → (In y m.orders ⊎ (y ≡ o)) → y.number ≡ x.number → y.terms ≡ x.terms
    both x y (inl i) (inl j) q = g.agree x i y j q
    both x y i (inr p) q = ap (λ (z : Order). z.terms) p ∙ sym (agree_new x i (sym q ∙ ap (λ (z : Order). z.number) p))
    both x y (inr p) (inl j) q = agree_new y (inl j) (q ∙ ap (λ (z : Order). z.number) p) ∙ ap (λ (z : Order). z.terms) (sym p)

    after : (x : Order) → In x (sweep t o (joined o m)).orders → Agree (sweep t o (joined o m)).orders x
    after x i y j q =
        let a = c.from x i in
        let b = c.from y j in
        sym b.2.terms ∙ both a.0 b.0 (in_push m.orders o a.0 a.1) (in_push m.orders o b.0 b.1) (b.2.number ∙ q ∙ sym a.2.number) ∙ a.2.terms

    but : (x y : Order) → (In x m.orders ⊎ (x ≡ o)) → (In y m.orders ⊎ (y ≡ o))
        → Apart (joined o m) x y ⊎ (In x.number (o.number ∷ []) ⊎ In y.number (o.number ∷ []))
    but x y (inl i) (inl j) = inl (apart_orders _ m x y (nobody m x y (g.apart x y i j)))
    but x y (inr p) j = inr (inl (inl (ap (λ (z : Order). z.number) p)))
    but x y (inl i) (inr p) = inr (inr (inl (ap (λ (z : Order). z.number) p)))

-- every call
abbrev pub OrderlyBook : Book → Type 0
OrderlyBook b = Orderly b.entries b.market

pub orderly_lasts : Lasts (λ t n m. Orderly n m)
orderly_lasts =
    record {
      fewer = λ t n k m h. part_orderly n (without k m.orders) m (without_from k m.orders) h;
      enter = λ t n o m e _ h. enter_orderly n t o m e h;
      quote = λ t n bid offer m h. quote_orderly n t bid offer m h;
    }

pub run_orderly : (bid offer room : ℕ) (cs : List Call) → OrderlyBook (run room cs (opened bid offer)).book
run_orderly bid offer room cs =
    run_lasts (λ t n m. Orderly n m) orderly_lasts (λ t n u m _ h. settle_orderly n u m h) room cs (opened bid offer)
    (record { agree = λ x i. absurd i; few = λ x i. absurd i; apart = λ x y i j. absurd i })

pub never_crossed : NeverCrossed
never_crossed bid offer room cs =
    let m : Market = (run room cs (opened bid offer)).book.market in
    let g : ApartBut [] m = (run_orderly bid offer room cs).apart in
    all_in _ m.orders (λ x i. all_in _ m.orders (λ y j p q. below m x y p q (nobody m x y (g x y i j))))
  where
    below : (m : Market) (x y : Order) → side_of x ≡ Buy → side_of y ≡ Sell → Apart m x y → reach_in m x < reach_in m y
    below m x y p q h =
        let e : meets (side_of y) (reach_in m y) (reach_in m x) ≡ false = h (q ∙ ap opposite (sym p)) in
        leb-false _ _ (subst (λ s. meets s (reach_in m y) (reach_in m x) ≡ false) q e)
