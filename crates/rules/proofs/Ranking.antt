-- Each side has exactly one ranking. That there is one: orders are placed one by one, and two entry numbers are never equal.
-- That there is no other: of two rankings the first orders are the same, and so are the rests.
use Rattle.std.proofs.Common.{◌≡◌, ℕ, ◌<◌, true, false, ◌⊎◌, ◌↔◌, List, [], ◌∷◌, Some, None, Option, sym, refl, ap, ◌∙◌, subst, inl, inr, arith}
use Rattle.std.proofs.ByRecursion.{All-weaker, all-has, all_has_itself}
use Rattle.std.proofs.lemmas.Bool.{true≢false}
use Rattle.std.specs.List.{ContainsAt as Has, AllByRecursion as Every}
use Rattle.terms.specs.Codes.{side_from}
use Rattle.terms.specs.Sides.{same_side}
use Rattle.terms.specs.declared.side.Side.{Side}
use Rattle.rules.specs.Laws.{Ascending, OneRanking, OneAnswer}
use Rattle.rules.specs.Market.{Market, Order, ranked_in, side_of}
use Rattle.rules.specs.Priority.{class_of}
use Rattle.rules.specs.Questions.{ranks_before, placed, InRank, ranking_of, Ranking, Standing, AnsweredOn, asked_on, standing_of, at_place}
use Rattle.rules.specs.Runs.{run, opened}
use Rattle.rules.proofs.Cases.{if_both}
use Rattle.rules.proofs.ByKeys.{first_then, first_not_back, first_total}
use Rattle.rules.proofs.Members.{In, in_has, has_in, in_all}
use Rattle.rules.proofs.Numbers.{numbers_ascend}
use Rattle.rules.proofs.Sides.{same_side_is, same_side_itself}

before_then : (m : Market) (s : Side) (x y z : Order) → ranks_before m s x y ≡ true → ranks_before m s y z ≡ true → ranks_before m s x z ≡ true
before_then m s x y z e f =
    first_then s (ranked_in m x) (class_of x.terms.kind) x.number (ranked_in m y) (class_of y.terms.kind) y.number (ranked_in m z) (class_of z.terms.kind) z.number e f

before_not_back : (m : Market) (s : Side) (x y : Order) → ranks_before m s x y ≡ true → ranks_before m s y x ≡ true → ⊥
before_not_back m s x y e f =
    true≢false (sym f ∙ first_not_back s (ranked_in m x) (class_of x.terms.kind) x.number (ranked_in m y) (class_of y.terms.kind) y.number e)

before_total : (m : Market) (s : Side) (x y : Order) → ranks_before m s x y ≡ false → (x.number ≡ y.number → ⊥) → ranks_before m s y x ≡ true
before_total m s x y e d =
    first_total s (ranked_in m x) (class_of x.terms.kind) x.number (ranked_in m y) (class_of y.terms.kind) y.number e d

-- There is one

placed_all : (m : Market) (s : Side) (P : Order → Type 0) (o : Order) (xs : List Order) → P o → Every P xs → Every P (placed m s o xs)
unfolding placed
placed_all m s P o [] h g = (h, g)
placed_all m s P o (x ∷ xs) h g =
    let later = placed_all m s P o xs h g.1 in
    if_both (ranks_before m s o x) (o ∷ (x ∷ xs)) (x ∷ placed m s o xs) (Every P) (λ _. (h, g)) (λ _. (g.0, later))

placed_new : (m : Market) (s : Side) (o : Order) (xs : List Order) → In o (placed m s o xs)
unfolding placed
placed_new m s o [] = inl refl
placed_new m s o (x ∷ xs) =
    let later = placed_new m s o xs in
    if_both (ranks_before m s o x) (o ∷ (x ∷ xs)) (x ∷ placed m s o xs) (In o) (λ _. inl refl) (λ _. inr later)

placed_old : (m : Market) (s : Side) (o y : Order) (xs : List Order) → In y xs → In y (placed m s o xs)
unfolding placed
placed_old m s o y [] i = absurd i
placed_old m s o y (x ∷ xs) (inl e) =
    if_both (ranks_before m s o x) (o ∷ (x ∷ xs)) (x ∷ placed m s o xs) (In y) (λ _. inr (inl e)) (λ _. inl e)
placed_old m s o y (x ∷ xs) (inr i) =
    let later = placed_old m s o y xs i in
    if_both (ranks_before m s o x) (o ∷ (x ∷ xs)) (x ∷ placed m s o xs) (In y) (λ _. inr (inr i)) (λ _. inr later)

placed_in_rank : (m : Market) (s : Side) (o : Order) (xs : List Order) → Every (λ x. o.number ≡ x.number → ⊥) xs → InRank m s xs
    → InRank m s (placed m s o xs)
unfolding placed
placed_in_rank m s o [] d h = (tt, tt)
placed_in_rank m s o (x ∷ xs) d h =
    let later = placed_in_rank m s o xs d.1 h.1 in
    if_both (ranks_before m s o x) (o ∷ (x ∷ xs)) (x ∷ placed m s o xs) (InRank m s)
    (λ e. ((e, All-weaker (λ y. ranks_before m s x y ≡ true) _ (λ y f. before_then m s o x y e f) xs h.0), h))
    (λ e. (placed_all m s (λ y. ranks_before m s x y ≡ true) o xs (before_total m s o x e d.0) h.0, later))

ranking_all : (m : Market) (s : Side) (P : Order → Type 0) (os : List Order) → Every P os → Every P (ranking_of m s os)
unfolding ranking_of
ranking_all m s P [] h = h
ranking_all m s P (o ∷ os) h =
    let later = ranking_all m s P os h.1 in
    if_both (same_side (side_of o) s) (placed m s o (ranking_of m s os)) (ranking_of m s os) (Every P)
    (λ _. placed_all m s P o (ranking_of m s os) h.0 later) (λ _. later)

ranking_side : (m : Market) (s : Side) (os : List Order) → Every (λ o. side_of o ≡ s) (ranking_of m s os)
unfolding ranking_of
ranking_side m s [] = tt
ranking_side m s (o ∷ os) =
    let later = ranking_side m s os in
    if_both (same_side (side_of o) s) (placed m s o (ranking_of m s os)) (ranking_of m s os) (Every (λ o. side_of o ≡ s))
    (λ e. placed_all m s (λ o. side_of o ≡ s) o (ranking_of m s os) (same_side_is (side_of o) s e) later) (λ _. later)

ranking_has : (m : Market) (s : Side) (os : List Order) (y : Order) → side_of y ≡ s → In y os → In y (ranking_of m s os)
unfolding ranking_of
ranking_has m s [] y e i = i
ranking_has m s (o ∷ os) y e (inl p) =
    if_both (same_side (side_of o) s) (placed m s o (ranking_of m s os)) (ranking_of m s os) (In y)
    (λ _. subst (λ z. In z (placed m s o (ranking_of m s os))) (sym p) (placed_new m s o (ranking_of m s os)))
    (λ f. absurd (true≢false (sym (same_side_itself s) ∙ ap (λ z. same_side z s) (sym e ∙ ap (λ (z : Order). side_of z) p) ∙ f)))
ranking_has m s (o ∷ os) y e (inr i) =
    let later = ranking_has m s os y e i in
    if_both (same_side (side_of o) s) (placed m s o (ranking_of m s os)) (ranking_of m s os) (In y)
    (λ _. placed_old m s o y (ranking_of m s os) later) (λ _. later)

ascending_above : (low : ℕ) (os : List Order) → Ascending low os → Every (λ o. low < o.number) os
ascending_above low [] h = tt
ascending_above low (o ∷ os) h =
    (h.0, All-weaker (λ (x : Order). o.number < x.number) _ (λ x l. omega (arith, h.0)) os (ascending_above o.number os h.1))

ranking_in_rank : (m : Market) (s : Side) (low : ℕ) (os : List Order) → Ascending low os → InRank m s (ranking_of m s os)
unfolding ranking_of
ranking_in_rank m s low [] h = tt
ranking_in_rank m s low (o ∷ os) h =
    let later = ranking_in_rank m s o.number os h.1 in
    if_both (same_side (side_of o) s) (placed m s o (ranking_of m s os)) (ranking_of m s os) (InRank m s)
    (λ _. placed_in_rank m s o (ranking_of m s os)
    (ranking_all m s (λ x. o.number ≡ x.number → ⊥) os (All-weaker (λ (x : Order). o.number < x.number) _ (λ x l e. omega arith) os (ascending_above o.number os h.1))) later)
    (λ _. later)

pub ranking_ranks : (m : Market) (s : Side) → Ascending 0 m.orders → Ranking m s (ranking_of m s m.orders)
ranking_ranks m s h =
    record {
      complete = λ o i e. in_has _ o (ranking_has m s m.orders o e (has_in _ o i));
      resting = λ o i. (
        all-has (Has m.orders) _ o (ranking_all m s (Has m.orders) m.orders (all_has_itself m.orders)) i,
        all-has (λ o. side_of o ≡ s) _ o (ranking_side m s m.orders) i,
      );
      in_rank = ranking_in_rank m s 0 m.orders h;
    }

-- There is no other

same_ranking : (m : Market) (s : Side) (xs ys : List Order) → ((o : Order) → In o xs → In o ys)
    → ((o : Order) → In o ys → In o xs) → InRank m s xs → InRank m s ys → xs ≡ ys
same_ranking m s [] [] f g h k = refl
same_ranking m s [] (y ∷ ys) f g h k = absurd (g y (inl refl))
same_ranking m s (x ∷ xs) [] f g h k = absurd (f x (inl refl))
same_ranking m s (x ∷ xs) (y ∷ ys) f g h k = both (first (f x (inl refl)) (g y (inl refl))) (same_ranking m s xs ys)
  where
    first : ((x ≡ y) ⊎ In x ys) → ((y ≡ x) ⊎ In y xs) → x ≡ y
    first (inl e) j = e
    first (inr i) (inl e) = sym e
    first (inr i) (inr j) = absurd (before_not_back m s x y (in_all _ xs y h.0 j) (in_all _ ys x k.0 i))

    not_again : (a : Order) (as_before : List Order) → Every (λ z. ranks_before m s a z ≡ true) as_before → In a as_before → ⊥
    not_again a zs l i = before_not_back m s a a (in_all _ zs a l i) (in_all _ zs a l i)

    later : (a b : Order) (as_before bs : List Order) → a ≡ b → Every (λ z. ranks_before m s a z ≡ true) as_before
        → ((o : Order) → In o (a ∷ as_before) → In o (b ∷ bs)) → (o : Order) → In o as_before → In o bs
    later a b zs bs e l q o i = elim (q o (inr i)) [ inl p ↦ absurd (not_again a zs l (subst (λ v. In v zs) (p ∙ sym e) i)) | inr j ↦ j ]

    both : x ≡ y
        → (((o : Order) → In o xs → In o ys) → ((o : Order) → In o ys → In o xs) → InRank m s xs → InRank m s ys → xs ≡ ys)
        → (x ∷ xs) ≡ (y ∷ ys)
    both e rest = let t : xs ≡ ys = rest (later x y xs ys e h.0 f) (later y x ys xs (sym e) k.0 g) h.1 k.1 in cc

pub one_ranking : OneRanking
one_ranking bid offer room cs s =
    let m : Market = (run room cs (opened bid offer)).book.market in
    let one = ranking_ranks m s (numbers_ascend bid offer room cs).0 in (
      one,
      λ os r. same_ranking m s os (ranking_of m s m.orders)
          (λ o i. let h = r.resting o (in_has os o i) in has_in _ o (one.complete o h.0 h.1))
          (λ o i. let h = one.resting o (in_has _ o i) in has_in os o (r.complete o h.0 h.1))
          r.in_rank one.in_rank,
    )

one_answer_on : (m : Market) (place : ℕ) (r : Option Standing) (s : Side) → Ranking m s (ranking_of m s m.orders)
    → ((os : List Order) → Ranking m s os → os ≡ ranking_of m s m.orders)
    → AnsweredOn m (Some s) place r ↔ (r ≡ asked_on m (Some s) place)
one_answer_on m place r s one only = (
  (λ h. h.2 ∙ ap (λ os. standing_of m (at_place place os)) (only h.0 h.1)),
  λ e. (ranking_of m s m.orders, one, e),
)

pub one_answer : OneAnswer
one_answer bid offer room cs code place r = by_side (side_from code)
  where
    m : Market
    m = (run room cs (opened bid offer)).book.market

    by_side : (side : Option Side) → AnsweredOn m side place r ↔ (r ≡ asked_on m side place)
    by_side None = ((λ e. e), λ e. e)
    by_side (Some s) = let h = one_ranking bid offer room cs s in one_answer_on m place r s h.0 h.1
