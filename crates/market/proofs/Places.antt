-- The next ranked is the next in the one ranking. Cite: ascends for a table's rows, next_place for a turn, within and past for
-- the places that are reached.
use Rattle.std.proofs.Common.{◌≡◌, ℕ, zero, suc, ◌+◌, ◌<◌, ◌≤◌, true, false, ltb, ◌⊎◌, List, [], ◌∷◌, length, Some, None, Option, sym, refl, ap, ◌∙◌, subst, inl, inr, add-one, arith}
use Rattle.std.proofs.ByRecursion.{all-has}
use Rattle.std.proofs.lemmas.Option.{slice_get_past}
use Rattle.std.proofs.lemmas.Bool.{true≢false, and_parts, and_from, and_right, ltb-true}
use Rattle.std.specs.List.{AllByRecursion as Every, slice_get}
use Rattle.terms.specs.Sides.{same_side}
use Rattle.terms.specs.declared.side.Side.{Side}
use Rattle.rules.specs.Laws.{Ascending}
use Rattle.rules.specs.Market.{Market, Order, side_of}
use Rattle.rules.specs.Questions.{ranks_before, InRank, Ranking, ranking_of, at_place}
use Rattle.rules.proofs.Cases.{if_both, some_same, none_some, option_cases}
use Rattle.rules.proofs.Members.{In, all_in, in_all, in_has, has_in}
use Rattle.rules.proofs.Ranking.{ranking_ranks}
use Rattle.rules.proofs.Sides.{same_side_is, same_side_itself}
use Rattle.market.specs.declared.table.Row.{Row}
use Rattle.market.specs.Rows.{row_order, rests, rising, orders_in}
use Rattle.market.specs.Ranks.{comes_after, NextRanked}
use Rattle.market.proofs.Next.{itself, not_back}

-- The rows' numbers ascend, and so do those of the orders

ascending_lower : (low high : ℕ) (os : List Order) → low ≤ high → Ascending high os → Ascending low os
ascending_lower low high [] le up = tt
ascending_lower low high (o ∷ os) le up = (omega (arith, up.0), up.1)

pub ascends : (low : ℕ) (rs : List Row) → rising low rs ≡ true → Ascending low (orders_in rs)
unfolding orders_in
ascends low [] up = tt
ascends low (r ∷ rs) up =
    let parts = and_parts (ltb low r.number) (rising r.number rs) up in
    let lt : low < r.number = ltb-true low r.number parts.0 in
    let later = ascends r.number rs parts.1 in
    if_both (rests r) (row_order r ∷ orders_in rs) (orders_in rs) (Ascending low) (λ _. (lt, later)) (λ _. ascending_lower low r.number (orders_in rs) (omega arith) later)

-- Places

nth_in : {X : Type 0} (xs : List X) (i : ℕ) (x : X) → slice_get xs i ≡ Some x → In x xs
nth_in [] i x e = absurd (none_some None x refl e)
nth_in (y ∷ xs) zero x e = inl (sym (some_same y x e))
nth_in (y ∷ xs) (suc i) x e = inr (nth_in xs i x e)

pub nth_within : {X : Type 0} (xs : List X) (i : ℕ) (x : X) → slice_get xs i ≡ Some x → i < length xs
nth_within [] i x e = absurd (none_some None x refl e)
nth_within (y ∷ xs) zero x e = omega arith
nth_within (y ∷ xs) (suc i) x e = let h = nth_within xs i x e in omega arith

pub nth_none : {X : Type 0} (xs : List X) (i : ℕ) → slice_get xs i ≡ None → length xs ≤ i
nth_none [] i e = omega arith
nth_none (y ∷ xs) zero e = absurd (none_some (Some y) y e refl)
nth_none (y ∷ xs) (suc i) e = let h = nth_none xs i e in omega arith

-- a place where something stands
pub within : {X : Type 0} (place : ℕ) (xs : List X) (x : X) → Some x ≡ at_place place xs → place ≤ length xs
within zero xs x e = omega arith
within (suc i) xs x e = let h = nth_within xs i x (sym e) in omega arith

-- nothing stands past a place where nothing stands
pub past : {X : Type 0} (place later : ℕ) (xs : List X) → 0 < place → place ≤ later → None ≡ at_place place xs → None ≡ at_place later xs
past zero later xs l h e = absurd (omega arith)
past (suc i) zero xs l h e = absurd (omega arith)
past (suc i) (suc j) xs l h e = let k = nth_none xs i (sym e) in sym (slice_get_past xs j (omega arith))

module _ (m : Market) (s : Side) where
  -- The first of a list in rank is next, and then the one after it

  on_side : (told : Option Order) (x : Order) → comes_after m s told x ≡ true → side_of x ≡ s
  on_side None x t = same_side_is (side_of x) s t
  on_side (Some a) x t = same_side_is (side_of x) s (and_parts (same_side (side_of x) s) (ranks_before m s a x) t).0

  is_on_side : (x : Order) → side_of x ≡ s → same_side (side_of x) s ≡ true
  is_on_side x e = ap (λ z. same_side z s) e ∙ same_side_itself s

  -- an order that does not come after the one told may be left out
  dropped : (told : Option Order) (x : Order) (xs : List Order) (next : Option Order) → comes_after m s told x ≡ false
      → NextRanked m s told (x ∷ xs) next → NextRanked m s told xs next
  dropped told x xs None f h = h.1
  dropped told x xs (Some z) f h = (in_has xs z (later (has_in (x ∷ xs) z h.0)), h.1, h.2.1)
    where
      later : In z (x ∷ xs) → In z xs
      later (inl e) = absurd (true≢false (sym h.1 ∙ ap (comes_after m s told) e ∙ f))
      later (inr i) = i

  first_next : (told : Option Order) (xs : List Order) (next : Option Order) → InRank m s xs → Every (λ x. comes_after m s told x ≡ true) xs
      → NextRanked m s told xs next → next ≡ slice_get xs 0
  first_next told [] None rank all h = refl
  first_next told [] (Some z) rank all h = absurd (has_in [] z h.0)
  first_next told (x ∷ xs) None rank all h = absurd (true≢false (sym all.0 ∙ h.0))
  first_next told (x ∷ xs) (Some z) rank all h = first (has_in (x ∷ xs) z h.0)
    where
      first : In z (x ∷ xs) → Some z ≡ Some x
      first (inl e) = ap Some e
      first (inr i) = absurd (true≢false (sym (in_all (λ y. ranks_before m s x y ≡ true) xs z rank.0 i) ∙ h.2.0 all.0))

  next_after : (xs : List Order) (i : ℕ) (a : Order) (next : Option Order) → InRank m s xs → Every (λ x. side_of x ≡ s) xs
      → slice_get xs i ≡ Some a → NextRanked m s (Some a) xs next → next ≡ slice_get xs (suc i)
  next_after [] i a next rank sides e h = absurd (none_some None a refl e)
  next_after (x ∷ xs) zero a next rank sides e h =
      subst (λ z. NextRanked m s (Some z) (x ∷ xs) next → next ≡ slice_get xs 0) (some_same x a e)
      (λ k. first_next (Some x) xs next rank.1
      (all_in _ xs (λ y i. and_from (same_side (side_of y) s) (ranks_before m s x y) (is_on_side y (in_all (λ z. side_of z ≡ s) xs y sides.1 i)) (in_all (λ z. ranks_before m s x z ≡ true) xs y rank.0 i)))
      (dropped (Some x) x xs next (and_right (same_side (side_of x) s) (ranks_before m s x x) (itself m s x)) k)) h
  next_after (x ∷ xs) (suc i) a next rank sides e h =
      next_after xs i a next rank.1 sides.1 e
      (dropped (Some a) x xs next
      (and_right (same_side (side_of x) s) (ranks_before m s a x) (not_back m s x a (in_all (λ z. ranks_before m s x z ≡ true) xs a rank.0 (nth_in xs i a e)))) h)

  -- The ranking has the orders of the side, and no others

  ranked_next : (told : Option Order) (os : List Order) (next : Option Order) → Ranking m s os → NextRanked m s told m.orders next
      → NextRanked m s told os next
  ranked_next told os None one h =
      all_in _ os (λ y i. all-has (λ y. comes_after m s told y ≡ false) m.orders y h (one.resting y (in_has os y i)).0)
  ranked_next told os (Some x) one h = (
    one.complete x h.0 (on_side told x h.1),
    h.1,
    all_in _ os (λ y i. all-has (λ y. comes_after m s told y ≡ true → ranks_before m s y x ≡ false) m.orders y h.2 (one.resting y (in_has os y i)).0),
  )

  by_place : (os : List Order) (place : ℕ) (told next : Option Order) → Ranking m s os → told ≡ at_place place os → place ≤ length os
      → NextRanked m s told os next → next ≡ at_place (suc place) os
  by_place os zero told next one e le h =
      first_next None os next one.in_rank (all_in _ os (λ y i. is_on_side y (one.resting y (in_has os y i)).1))
      (subst (λ z. NextRanked m s z os next) e h)
  by_place os (suc i) told next one e le h = by (option_cases (slice_get os i))
    where
      by : (slice_get os i ≡ None) ⊎ ((a : Order) × (slice_get os i ≡ Some a)) → next ≡ slice_get os (suc i)
      by (inl f) = absurd (omega (arith, nth_none os i f))
      by (inr (a, f)) =
          next_after os i a next one.in_rank (all_in _ os (λ y j. (one.resting y (in_has os y j)).1)) f
          (subst (λ z. NextRanked m s z os next) (e ∙ f) h)

  pub next_place : (place : ℕ) (told next : Option Order) → Ascending 0 m.orders → told ≡ at_place place (ranking_of m s m.orders)
      → place ≤ length (ranking_of m s m.orders) → NextRanked m s told m.orders next
      → next ≡ at_place (place + 1) (ranking_of m s m.orders)
  next_place place told next up e le h =
      let one = ranking_ranks m s up in
      let os = ranking_of m s m.orders in
      by_place os place told next one e le (ranked_next told os next one h) ∙ ap (λ k. at_place k os) (sym (add-one place))

-- where a walk down the ranking has come to, one order at a time
pub record Reached (m : Market) (s : Side) (place : ℕ) (told : Option Order) : Type 0 where
  pub there : told ≡ at_place place (ranking_of m s m.orders)
  pub within : place ≤ length (ranking_of m s m.orders)
