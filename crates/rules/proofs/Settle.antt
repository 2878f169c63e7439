-- Settling to a time and then to a later one is settling to the later one, and nothing is due then. By weight: rows and
-- running periods together fall with each end of a period, so the turns given are enough and more change nothing.
-- Cite: due_is, due_none, none_due, settle_then, settled, settle_still, each_fewer.
use Rattle.std.proofs.Common.{◌≡◌, ℕ, zero, suc, ◌+◌, ◌<◌, ◌≤◌, leb, ◌⊎◌, List, [], ◌∷◌, length, Some, None, Option, sym, refl, ap, ◌∙◌, subst, inl, inr, arith}
use Rattle.std.proofs.lemmas.Bool.{and_parts, leb-true, leb-false, le-leb}
use Rattle.std.specs.List.{AllByRecursion as Every}
use Rattle.terms.specs.Sides.{same_side}
use Rattle.terms.specs.declared.side.Side.{Side}
use Rattle.terms.specs.declared.side.Side.TheVariants.{Buy, Sell}
use Rattle.rules.specs.Clock.{protected_on, earliest, not_after, due, end_period, end_periods, settle}
use Rattle.rules.specs.Market.{Market, those, Order, side_of, end_of, with_end}
use Rattle.rules.specs.Sweep.{sweep, sweep_each}
use Rattle.rules.proofs.Cases.{if_both, some_same, none_some, option_cases, if_true, option_none, option_some}
use Rattle.rules.proofs.Sides.{same_side_is}
use Rattle.rules.proofs.Trade.{Fewer, sweep_fewer, sweep_end}

-- 1 where a period runs
abbrev pub one_if : Option ℕ → ℕ
one_if None = 0
one_if (Some e) = 1

-- rows and running periods: how many ends can still come
abbrev pub weight : Market → ℕ
weight m = length m.orders + (one_if m.buy_end + one_if m.sell_end)

-- those that are swept at the end of a side's period are of that side
pub those_side : (s : Side) (os : List Order) → Every (λ o. side_of o ≡ s) (those (protected_on s) os)
unfolding those
those_side s [] = tt
those_side s (o ∷ os) =
    let h = those_side s os in
    if_both (protected_on s o) (o ∷ those (protected_on s) os) (those (protected_on s) os) (λ r. Every (λ z. side_of z ≡ s) r)
    (λ e. (same_side_is (side_of o) s (and_parts o.terms.qdp (same_side (side_of o) s) e).1, h))
    (λ _. h)

fewer_then : (m r q : Market) → Fewer m r → Fewer r q → Fewer m q
fewer_then m r q (inl e) (inl f) = inl (f ∙ e)
fewer_then m r q (inl e) (inr l) = inr (omega (arith, ap (λ (z : Market). length z.orders) e))
fewer_then m r q (inr k) (inl f) = inr (omega (arith, ap (λ (z : Market). length z.orders) f))
fewer_then m r q (inr k) (inr l) = inr (omega arith)

pub each_fewer : (t : ℕ) (os : List Order) (m : Market) → Fewer m (sweep_each t os m)
unfolding sweep_each
each_fewer t [] m = inl refl
each_fewer t (o ∷ os) m = fewer_then m (sweep t o m) _ (sweep_fewer t o m) (each_fewer t os (sweep t o m))

pub each_end : (t : ℕ) (s : Side) (os : List Order) (m : Market) → Every (λ o. side_of o ≡ s) os → end_of s (sweep_each t os m) ≡ end_of s m
unfolding sweep_each
each_end t s [] m a = refl
each_end t s (o ∷ os) m a =
    each_end t s os (sweep t o m) a.1 ∙ subst (λ z. end_of z (sweep t o m) ≡ end_of z m) a.0 (sweep_end t o m)

abbrev of_side : Side → Option ℕ → Option ℕ → Option ℕ
of_side Buy x y = x
of_side Sell x y = y

of_end : (s : Side) (m : Market) → of_side s m.buy_end m.sell_end ≡ end_of s m
of_end Buy m = refl
of_end Sell m = refl

-- d is the earliest of the two ends
record First (x y : Option ℕ) (d : Side × ℕ) : Type 0 where
  runs : of_side d.0 x y ≡ Some d.1
  least : (s : Side) (e : ℕ) → of_side s x y ≡ Some e → d.1 ≤ e

only : (e f : ℕ) → Some e ≡ Some f → e ≤ f
only e f p = omega (arith, some_same e f p)

first_at : (x y : Option ℕ) (c d : Side × ℕ) → First x y c → Some c ≡ Some d → First x y d
first_at x y c d h e = subst (λ z. First x y z) (some_same c d e) h

earliest_first : (x y : Option ℕ) (d : Side × ℕ) → earliest x y ≡ Some d → First x y d
earliest_first None None d = λ e. absurd (none_some None d refl e)
earliest_first None (Some f) d =
    first_at None (Some f) (Sell, f) d (record { runs = refl; least = elim [ Buy ↦ λ e p. absurd (none_some None e refl p) | Sell ↦ λ e p. only f e p ] })
earliest_first (Some f) None d =
    first_at (Some f) None (Buy, f) d (record { runs = refl; least = elim [ Buy ↦ λ e p. only f e p | Sell ↦ λ e p. absurd (none_some None e refl p) ] })
earliest_first (Some f) (Some g) d =
    if_both (leb f g) (Some (Buy, f)) (Some (Sell, g)) (λ r. r ≡ Some d → First (Some f) (Some g) d)
    (λ t. first_at (Some f) (Some g) (Buy, f) d
    (record { runs = refl; least = elim [ Buy ↦ λ e p. only f e p | Sell ↦ λ e p. omega (arith, only g e p, leb-true f g t) ] }))
    (λ t. first_at (Some f) (Some g) (Sell, g) d
    (record { runs = refl; least = elim [ Buy ↦ λ e p. omega (arith, only f e p, leb-false f g t) | Sell ↦ λ e p. only g e p ] }))

earliest_none : (x y : Option ℕ) → earliest x y ≡ None → (s : Side) (e : ℕ) → of_side s x y ≡ Some e → ⊥
earliest_none None None = λ p. elim [ Buy ↦ λ e q. none_some None e refl q | Sell ↦ λ e q. none_some None e refl q ]
earliest_none None (Some f) = λ p. absurd (none_some _ (Sell, f) p refl)
earliest_none (Some f) None = λ p. absurd (none_some _ (Buy, f) p refl)
earliest_none (Some f) (Some g) =
    if_both (leb f g) (Some (Buy, f)) (Some (Sell, g)) (λ r. r ≡ None → (s : Side) (e : ℕ) → of_side s (Some f) (Some g) ≡ Some e → ⊥)
    (λ _ p. absurd (none_some _ (Buy, f) p refl))
    (λ _ p. absurd (none_some _ (Sell, g) p refl))

up_to_some : (t : ℕ) (o : Option (Side × ℕ)) (d : Side × ℕ) → not_after t o ≡ Some d → (o ≡ Some d) × (d.1 ≤ t)
up_to_some t None d = λ e. absurd (none_some None d refl e)
up_to_some t (Some c) d =
    if_both (leb c.1 t) (Some c) None (λ r. r ≡ Some d → (Some c ≡ Some d) × (d.1 ≤ t))
    (λ l e. (e, subst (λ (z : Side × ℕ). z.1 ≤ t) (some_same c d e) (leb-true c.1 t l)))
    (λ _ e. absurd (none_some None d refl e))

up_to_none : (t : ℕ) (o : Option (Side × ℕ)) → not_after t o ≡ None → (d : Side × ℕ) → o ≡ Some d → t < d.1
up_to_none t None = λ _ d e. absurd (none_some None d refl e)
up_to_none t (Some c) =
    if_both (leb c.1 t) (Some c) None (λ r. r ≡ None → (d : Side × ℕ) → Some c ≡ Some d → t < d.1)
    (λ _ e. absurd (none_some _ c e refl))
    (λ l _ d e. subst (λ (z : Side × ℕ). t < z.1) (some_same c d e) (leb-false c.1 t l))

-- what is due runs, by t, and ends first
pub record Due (t : ℕ) (m : Market) (d : Side × ℕ) : Type 0 where
  pub runs : end_of d.0 m ≡ Some d.1
  pub by : d.1 ≤ t
  pub least : (s : Side) (e : ℕ) → end_of s m ≡ Some e → d.1 ≤ e

pub due_is : (t : ℕ) (m : Market) (d : Side × ℕ) → due t m ≡ Some d → Due t m d
due_is t m d e =
    let h = up_to_some t (earliest m.buy_end m.sell_end) d e in
    let f = earliest_first m.buy_end m.sell_end d h.0 in
    record {
      runs = sym (of_end d.0 m) ∙ f.runs;
      by = h.1;
      least = λ s k p. f.least s k (of_end s m ∙ p);
    }

-- where nothing is due, every period that runs ends after t
pub due_none : (t : ℕ) (m : Market) → due t m ≡ None → (s : Side) (e : ℕ) → end_of s m ≡ Some e → t < e
due_none t m p s e q = by_earliest (option_cases (earliest m.buy_end m.sell_end))
  where
    by_earliest : ((earliest m.buy_end m.sell_end ≡ None) ⊎ ((d : Side × ℕ) × (earliest m.buy_end m.sell_end ≡ Some d))) → t < e
    by_earliest (inl n) = absurd (earliest_none m.buy_end m.sell_end n s e (of_end s m ∙ q))
    by_earliest (inr f) =
        omega (
          arith,
          up_to_none t (earliest m.buy_end m.sell_end) p f.0 f.1,
          (earliest_first m.buy_end m.sell_end f.0 f.1).least s e (of_end s m ∙ q),
        )

-- what is due by t is due by any later time
pub due_later : (t u : ℕ) (m : Market) (d : Side × ℕ) → t ≤ u → due t m ≡ Some d → due u m ≡ Some d
due_later t u m d l e =
    let h = up_to_some t (earliest m.buy_end m.sell_end) d e in
    ap (not_after u) h.0 ∙ if_true (leb d.1 u) (Some d) None (le-leb d.1 u (omega (arith, h.1)))

one_most : (o : Option ℕ) → one_if o ≤ 1
one_most None = omega arith
one_most (Some x) = omega arith

one_of_none : (o : Option ℕ) → o ≡ None → one_if o ≡ 0
one_of_none o e = ap one_if e

one_of_some : (o : Option ℕ) (f : ℕ) → o ≡ Some f → one_if o ≡ 1
one_of_some o f e = ap one_if e

lighter : (s : Side) (m r : Market) (f : ℕ) → end_of s m ≡ Some f → end_of s r ≡ None → Fewer (with_end s None m) r → weight r < weight m
lighter Buy m r f p n (inl q) =
    omega (arith, ap weight q, one_of_some m.buy_end f p)
lighter Buy m r f p n (inr l) =
    omega (arith, one_of_some m.buy_end f p, one_of_none r.buy_end n, one_most r.sell_end)
lighter Sell m r f p n (inl q) =
    omega (arith, ap weight q, one_of_some m.sell_end f p)
lighter Sell m r f p n (inr l) =
    omega (arith, one_of_some m.sell_end f p, one_of_none r.sell_end n, one_most r.buy_end)

ended : (s : Side) (m : Market) → end_of s (with_end s None m) ≡ None
ended Buy m = refl
ended Sell m = refl

-- the end of a period leaves fewer ends to come
pub end_lighter : (t : ℕ) (m : Market) (d : Side × ℕ) → due t m ≡ Some d → weight (end_period d m) < weight m
unfolding end_period
end_lighter t m d e =
    let os = those (protected_on d.0) m.orders in
    let r = with_end d.0 None m in
    lighter d.0 m (sweep_each d.1 os r) d.1 (due_is t m d e).runs
    (each_end d.1 d.0 os r (those_side d.0 m.orders) ∙ ended d.0 m)
    (each_fewer d.1 os r)

-- one turn of `end_periods`, by what is due
pub ends_none : (n t : ℕ) (m : Market) → due t m ≡ None → end_periods n t m ≡ m
unfolding end_periods
ends_none zero t m e = refl
ends_none (suc n) t m e = option_none (due t m) m (λ d. end_periods n t (end_period d m)) e

pub ends_some : (n t : ℕ) (m : Market) (d : Side × ℕ) → due t m ≡ Some d → end_periods (suc n) t m ≡ end_periods n t (end_period d m)
unfolding end_periods
ends_some n t m d e = option_some (due t m) m (λ d. end_periods n t (end_period d m)) d e

ends_zero : (t : ℕ) (m : Market) → end_periods 0 t m ≡ m
unfolding end_periods
ends_zero t m = refl

pub ends_lighter : (n t : ℕ) (m : Market) → weight (end_periods n t m) ≤ weight m
ends_lighter zero t m = omega (arith, ap weight (ends_zero t m))
ends_lighter (suc n) t m = by_due (option_cases (due t m)) (λ d. ends_lighter n t (end_period d m))
  where
    by_due : ((due t m ≡ None) ⊎ ((d : Side × ℕ) × (due t m ≡ Some d)))
        → ((d : Side × ℕ) → weight (end_periods n t (end_period d m)) ≤ weight (end_period d m))
        → weight (end_periods (suc n) t m) ≤ weight m
    by_due (inl e) ih = omega (arith, ap weight (ends_none (suc n) t m e))
    by_due (inr f) ih = omega (arith, ap weight (ends_some n t m f.0 f.1), ih f.0, end_lighter t m f.0 f.1)

-- a period that is due weighs
due_weighs : (t : ℕ) (m : Market) (d : Side × ℕ) → due t m ≡ Some d → 0 < weight m
due_weighs t m d e = omega (arith, end_lighter t m d e)

abbrev Ways : ℕ → Market → Type 0
Ways t m = (due t m ≡ None) ⊎ ((d : Side × ℕ) × (due t m ≡ Some d))

nothing_weighs : (t : ℕ) (m : Market) → weight m ≤ 0 → Ways t m → due t m ≡ None
nothing_weighs t m w (inl e) = e
nothing_weighs t m w (inr f) = absurd (omega (arith, due_weighs t m f.0 f.1))

-- turns past the weight change nothing
pub ends_enough : (n k t : ℕ) (m : Market) → weight m ≤ n → weight m ≤ k → end_periods n t m ≡ end_periods k t m
ends_enough zero k t m a b =
    let e = nothing_weighs t m a (option_cases (due t m)) in
    ends_none 0 t m e ∙ sym (ends_none k t m e)
ends_enough (suc n) zero t m a b =
    let e = nothing_weighs t m b (option_cases (due t m)) in
    ends_none (suc n) t m e ∙ sym (ends_none 0 t m e)
ends_enough (suc n) (suc k) t m a b = by_due (option_cases (due t m)) (λ d. ends_enough n k t (end_period d m))
  where
    by_due : Ways t m
        → ((d : Side × ℕ) → weight (end_period d m) ≤ n → weight (end_period d m) ≤ k → end_periods n t (end_period d m) ≡ end_periods k t (end_period d m))
        → end_periods (suc n) t m ≡ end_periods (suc k) t m
    by_due (inl e) ih = ends_none (suc n) t m e ∙ sym (ends_none (suc k) t m e)
    by_due (inr f) ih =
        let l = end_lighter t m f.0 f.1 in
        ends_some n t m f.0 f.1 ∙ ih f.0 (omega arith) (omega arith) ∙ sym (ends_some k t m f.0 f.1)

-- the ends by t and then those by u are the ends by u
pub ends_then : (n t u : ℕ) (m : Market) → t ≤ u → weight m ≤ n → end_periods n u (end_periods n t m) ≡ end_periods n u m
ends_then zero t u m l a = ap (end_periods 0 u) (ends_zero t m)
ends_then (suc n) t u m l a = by_due (option_cases (due t m)) (λ d. ends_then n t u (end_period d m) l)
  where
    by_due : Ways t m
        → ((d : Side × ℕ) → weight (end_period d m) ≤ n → end_periods n u (end_periods n t (end_period d m)) ≡ end_periods n u (end_period d m))
        → end_periods (suc n) u (end_periods (suc n) t m) ≡ end_periods (suc n) u m
    by_due (inl e) ih = ap (end_periods (suc n) u) (ends_none (suc n) t m e)
    by_due (inr f) ih =
        let l1 = end_lighter t m f.0 f.1 in
        let l2 = ends_lighter n t (end_period f.0 m) in
        ap (end_periods (suc n) u) (ends_some n t m f.0 f.1)
        ∙ ends_enough (suc n) n u (end_periods n t (end_period f.0 m)) (omega arith) (omega arith)
        ∙ ih f.0 (omega arith)
        ∙ sym (ends_some n u m f.0 (due_later t u m f.0 l f.1))

weight_most : (m : Market) → weight m ≤ length m.orders + 2
weight_most m = omega (arith, one_most m.buy_end, one_most m.sell_end)

-- settling to t and then to u is settling to u
pub settle_then : (t u : ℕ) (m : Market) → t ≤ u → settle u (settle t m) ≡ settle u m
unfolding settle
settle_then t u m l =
    let r = end_periods (length m.orders + 2) t m in
    ends_enough (length r.orders + 2) (length m.orders + 2) u r (weight_most r)
    (omega (arith, ends_lighter (length m.orders + 2) t m, weight_most m))
    ∙ ends_then (length m.orders + 2) t u m l (weight_most m)

-- after settling to t every period that runs ends after t
pub settled : (t : ℕ) (m : Market) (s : Side) (e : ℕ) → end_of s (settle t m) ≡ Some e → t < e
unfolding settle
settled t m s e q = due_none t (end_periods (length m.orders + 2) t m) (ends_quiet (length m.orders + 2) t m (weight_most m)) s e q
  where
    ends_quiet : (n t : ℕ) (m : Market) → weight m ≤ n → due t (end_periods n t m) ≡ None
    ends_quiet zero t m a = ap (due t) (ends_zero t m) ∙ nothing_weighs t m a (option_cases (due t m))
    ends_quiet (suc n) t m a = by_due (option_cases (due t m)) (λ d. ends_quiet n t (end_period d m))
      where
        by_due : Ways t m → ((d : Side × ℕ) → weight (end_period d m) ≤ n → due t (end_periods n t (end_period d m)) ≡ None)
            → due t (end_periods (suc n) t m) ≡ None
        by_due (inl e) ih = ap (due t) (ends_none (suc n) t m e) ∙ e
        by_due (inr f) ih = let l = end_lighter t m f.0 f.1 in ap (due t) (ends_some n t m f.0 f.1) ∙ ih f.0 (omega arith)

-- where every period that runs ends after t, none is due
pub none_due : (t : ℕ) (m : Market) → ((s : Side) (e : ℕ) → end_of s m ≡ Some e → t < e) → due t m ≡ None
none_due t m h = by_ways (option_cases (due t m))
  where
    by_ways : Ways t m → due t m ≡ None
    by_ways (inl e) = e
    by_ways (inr f) = let d = due_is t m f.0 f.1 in absurd (omega (arith, d.by, h f.0.0 f.0.1 d.runs))

-- a market that is settled at t stays as it is
pub settle_still : (t : ℕ) (m : Market) → ((s : Side) (e : ℕ) → end_of s m ≡ Some e → t < e) → settle t m ≡ m
unfolding settle
settle_still t m h = ends_none (length m.orders + 2) t m (none_due t m h)
