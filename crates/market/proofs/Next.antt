-- The scan for the next ranked: the best so far and one row more. Cite: next_best for the scan, with later_rows and goes_before;
-- itself, not_back for what `ranks_before` is.
use Rattle.std.proofs.Common.{◌≡◌, Bool, true, false, ◌&&◌, ◌⊎◌, List, [], ◌∷◌, ◌++◌, Some, None, Option, sym, refl, ap, ◌∙◌, subst, inl, inr}
use Rattle.std.proofs.ByRecursion.{All-weaker, All-push, has_push, has_append_left}
use Rattle.std.proofs.lemmas.List.{append-nil}
use Rattle.std.proofs.lemmas.Bool.{true≢false, and_parts, cases_Bool}
use Rattle.std.specs.List.{filter, reduce}
use Rattle.std.specs.Option.{option_map}
use Rattle.terms.specs.Sides.{same_side}
use Rattle.terms.specs.declared.side.Side.{Side}
use Rattle.rules.specs.Market.{Market, Order, ranked_in}
use Rattle.rules.specs.Priority.{class_of}
use Rattle.rules.specs.Questions.{ranks_before}
use Rattle.rules.proofs.ByKeys.{first_not_itself, first_not_back, first_through}
use Rattle.market.specs.declared.table.Row.{Row}
use Rattle.market.specs.Rows.{row_order, rests, orders_in}
use Rattle.market.proofs.Found.{orders_in_spent}
use Rattle.market.proofs.Best.{better, best_met}
use Rattle.market.proofs.Joined.{orders_in_none, orders_in_one, orders_in_append}
use Rattle.market.specs.Ranks.{comes_after, NextRanked}

both_hold : (x y z : Bool) → x ≡ true → y ≡ true → z ≡ (x && (y && z))
both_hold true true z p q = refl
both_hold true false z p q = absurd (true≢false (sym q))
both_hold false y z p q = absurd (true≢false (sym p))

module _ (m : Market) (s : Side) where
  pub itself : (x : Order) → ranks_before m s x x ≡ false
  itself x = first_not_itself s (ranked_in m x) (class_of x.terms.kind) x.number

  pub not_back : (x y : Order) → ranks_before m s x y ≡ true → ranks_before m s y x ≡ false
  not_back x y e = first_not_back s (ranked_in m x) (class_of x.terms.kind) x.number (ranked_in m y) (class_of y.terms.kind) y.number e

  through : (x y z : Order) → ranks_before m s x y ≡ false → ranks_before m s y z ≡ false → ranks_before m s x z ≡ false
  through x y z e f =
      first_through s (ranked_in m x) (class_of x.terms.kind) x.number (ranked_in m y) (class_of y.terms.kind) y.number (ranked_in m z) (class_of z.terms.kind) z.number e f

  -- a row that rests on the side, where one is told
  pub after_told : (told : Option Order) (a : Order) (r : Row) (b : Bool) → told ≡ Some a → true ≡ (rests r && same_side r.terms.side s)
      → b ≡ ranks_before m s a (row_order r) → b ≡ (rests r && comes_after m s told (row_order r))
  after_told told a r b e t is =
      let both = and_parts (rests r) (same_side r.terms.side s) (sym t) in
      is
      ∙ both_hold (rests r) (same_side r.terms.side s) (ranks_before m s a (row_order r)) both.0 both.1
      ∙ ap (λ z. rests r && comes_after m s z (row_order r)) (sym e)

  module _ (told : Option Order) (os : List Order) where
    -- One order more

    order_passed : (best : Option Order) (o : Order) → comes_after m s told o ≡ false → NextRanked m s told os best → NextRanked m s told (os ++ (o ∷ [])) best
    order_passed None o f h = All-push _ os o h f
    order_passed (Some x) o f h = (has_append_left os (o ∷ []) x h.0, h.1, All-push _ os o h.2 (λ c. absurd (true≢false (sym c ∙ f))))

    order_first : (o : Order) → comes_after m s told o ≡ true → NextRanked m s told os None → NextRanked m s told (os ++ (o ∷ [])) (Some o)
    order_first o t h = (
      has_push os o,
      t,
      All-push _ os o (All-weaker (λ y. comes_after m s told y ≡ false) _ (λ y f c. absurd (true≢false (sym c ∙ f))) os h) (λ _. itself o),
    )

    order_taken : (x o : Order) → comes_after m s told o ≡ true → ranks_before m s o x ≡ true → NextRanked m s told os (Some x)
        → NextRanked m s told (os ++ (o ∷ [])) (Some o)
    order_taken x o t b h = (
      has_push os o,
      t,
      All-push _ os o
          (All-weaker (λ y. comes_after m s told y ≡ true → ranks_before m s y x ≡ false) _ (λ y f c. through y x o (f c) (not_back o x b)) os h.2)
          (λ _. itself o),
    )

    order_kept : (x o : Order) → ranks_before m s o x ≡ false → NextRanked m s told os (Some x) → NextRanked m s told (os ++ (o ∷ [])) (Some x)
    order_kept x o f h = (has_append_left os (o ∷ []) x h.0, h.1, All-push _ os o h.2 (λ _. f))

    -- One row more

    module _ (r : Row) where
      as_order : (best : Option Order) → rests r ≡ true → NextRanked m s told (os ++ (row_order r ∷ [])) best → NextRanked m s told (os ++ orders_in (r ∷ [])) best
      as_order best t h = subst (λ xs. NextRanked m s told (os ++ xs) best) (sym (orders_in_one r t)) h

      passed_over : (best : Option Order) → false ≡ (rests r && comes_after m s told (row_order r)) → NextRanked m s told os best
          → NextRanked m s told (os ++ orders_in (r ∷ [])) best
      passed_over best f h = by (cases_Bool (rests r))
        where
          by : (rests r ≡ true) ⊎ (rests r ≡ false) → NextRanked m s told (os ++ orders_in (r ∷ [])) best
          by (inl t) = as_order best t (order_passed best (row_order r) (sym (f ∙ ap (λ b. b && comes_after m s told (row_order r)) t)) h)
          by (inr t) = subst (λ xs. NextRanked m s told xs best) (sym (ap (λ xs. os ++ xs) (orders_in_spent r [] t ∙ orders_in_none) ∙ append-nil os)) h

      module _ (best : Option Order) (t : true ≡ (rests r && comes_after m s told (row_order r))) (h : NextRanked m s told os best) where
        both : (rests r ≡ true) × (comes_after m s told (row_order r) ≡ true)
        both = and_parts (rests r) (comes_after m s told (row_order r)) (sym t)

        first : best ≡ None → NextRanked m s told (os ++ orders_in (r ∷ [])) (Some (row_order r))
        first e = as_order (Some (row_order r)) both.0 (order_first (row_order r) both.1 (subst (NextRanked m s told os) e h))

        taken : (x : Order) → best ≡ Some x → true ≡ ranks_before m s (row_order r) x → NextRanked m s told (os ++ orders_in (r ∷ [])) (Some (row_order r))
        taken x e b = as_order (Some (row_order r)) both.0 (order_taken x (row_order r) both.1 (sym b) (subst (NextRanked m s told os) e h))

        kept : (x : Order) → best ≡ Some x → false ≡ ranks_before m s (row_order r) x → NextRanked m s told (os ++ orders_in (r ∷ [])) (Some x)
        kept x e f = as_order (Some x) both.0 (order_kept x (row_order r) (sym f) (subst (NextRanked m s told os) e h))

  -- The whole scan

  module _ (told : Option Order) where
    abbrev pub later_rows : Row → Bool
    later_rows r = rests r && comes_after m s told (row_order r)

    abbrev pub goes_before : Row → Row → Bool
    goes_before z a = ranks_before m s (row_order z) (row_order a)

    abbrev Best : List Row → Option Row → Type 0
    Best rs best = NextRanked m s told (orders_in rs) (option_map row_order best)

    grown : (rs : List Row) (r : Row) (best : Option Row) → NextRanked m s told (orders_in rs ++ orders_in (r ∷ [])) (option_map row_order best) → Best (rs ++ (r ∷ [])) best
    grown rs r best h = subst (λ os. NextRanked m s told os (option_map row_order best)) (sym (orders_in_append rs (r ∷ []))) h

    pub next_best : (rs : List Row) → NextRanked m s told (orders_in rs) (option_map row_order (reduce (better goes_before) (filter later_rows rs)))
    next_best rs =
        best_met later_rows goes_before Best
        (λ xs r best f h. grown xs r best (passed_over told (orders_in xs) r (option_map row_order best) (sym f) h))
        (λ xs r t h. grown xs r (Some r) (first told (orders_in xs) r None (sym t) h refl))
        (λ xs r a t u h. grown xs r (Some r) (taken told (orders_in xs) r (Some (row_order a)) (sym t) h (row_order a) refl (sym u)))
        (λ xs r a t u h. grown xs r (Some a) (kept told (orders_in xs) r (Some (row_order a)) (sym t) h (row_order a) refl (sym u)))
        rs (subst (λ os. NextRanked m s told os None) (sym orders_in_none) tt)
