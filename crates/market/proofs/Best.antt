-- The best of the rows by a relation, as a chain of `filter`, `reduce` and `copied` finds it. Cite: best_of for what the chain
-- gives, best_met for what lasts from row to row, partner_best for the next partner.
use Rattle.std.proofs.Common.{◌≡◌, ℕ, Bool, true, false, cond, ◌&&◌, List, [], ◌∷◌, ◌++◌, Some, None, fold, Option, sym, refl, ap, ◌∙◌, subst, append_assoc, append-nil, MatchOption}
use Rattle.std.proofs.lemmas.Bool.{and_parts, cond-true, cond-false}
use Rattle.std.proofs.lemmas.Iterator.{YieldsList}
use Rattle.std.proofs.lemmas.Iterator.Consumers.{reduce_by_from_yields_List}
use Rattle.std.proofs.lemmas.List.Sums.{fold-append}
use Rattle.std.specs.Fn.{Called}
use Rattle.std.specs.Iterator.{Drains}
use Rattle.std.specs.List.{FoldsTo, filter, reduce}
use Rattle.std.specs.Option.{option_map, option_copied}
use denote.Param.Members.{Mut}
use denote.Ref.{Bor}
use Rattle.terms.specs.declared.side.Side.{Side}
use Rattle.rules.specs.Market.{Market}
use Rattle.rules.specs.Priority.{is_partner, ahead, better_of}
use Rattle.rules.proofs.Cases.{if_true, if_false}
use Rattle.market.specs.declared.table.Row.{Row}
use Rattle.market.specs.Rows.{row_order, rests, orders_in}
use Rattle.market.proofs.Found.{orders_in_spent}
use Rattle.market.proofs.Joined.{orders_in_none, orders_in_one, orders_in_append}

-- the better of two rows, where `first` tells that the second goes before the first
abbrev pub better : (Row → Row → Bool) → Row → Row → Row
better first a z = cond (first z a) z a

module _ {F : Type 0} (g : Mut F (Bor Row × (Bor Row × Unit {0})) (Bor Row)) (f : F) (first : Row → Row → Bool) (same : (a z c : Bor Row) (f' : F) → Called g f (a, (z, tt)) c f' → (f' ≡ f) × (c ≡ cond (first z.now a.now) z a)) where
  turns : (p : F × Bor Row) (xs : List (Bor Row)) (q : F × Bor Row) → p.0 ≡ f → FoldsTo {P = F × Bor Row} (λ u x v. Called g u.0 (u.1, (x, tt)) v.1 v.0) p xs q
      → FoldsTo (λ a z c. c ≡ cond (first z.now a.now) z a) p.1 xs q.1
  turns p [] q e h = ap (λ (u : F × Bor Row). u.1) h
  turns p (x ∷ xs) q e (j, c, rest) =
      let one = same p.1 x j.1 j.0 (subst (λ u. Called g u (p.1, (x, tt)) j.1 j.0) e c) in
      (j.1, one.1, turns j xs q one.0 rest)

  read : (b : Bool) (a z : Bor Row) → (cond b z a).now ≡ cond b z.now a.now
  read true a z = refl
  read false a z = refl

  pub best_of : {S : Type 0} {steps : S → Option (Bor Row) → S → Type 0} {all : List Row} (s : S) (r : Option (Bor Row))
      → MatchOption r (Drains steps s []) (λ y. (x : Bor Row) × (xs : List (Bor Row)) × (f' : F) × Drains steps s (x ∷ xs) × FoldsTo {P = F × Bor Row} (λ u x v. Called g u.0 (u.1, (x, tt)) v.1 v.0) (f, x) xs (f', y))
      → YieldsList steps (λ y. y.now) s all → option_copied r ≡ reduce (better first) all
  best_of s None h road = reduce_by_from_yields_List (λ a z. cond (first z.now a.now) z a) (better first) s None (λ a z. read (first z.now a.now) a z) h road
  best_of s (Some y) (x, xs, f', drained, folds) road =
      reduce_by_from_yields_List (λ a z. cond (first z.now a.now) z a) (better first) s (Some y) (λ a z. read (first z.now a.now) a z)
      (x, xs, drained, turns (f, x) xs (f', y) refl folds) road

-- What holds of the best of no row, and lasts as one row more is looked at, holds of the best of all

module _ (p : Row → Bool) (first : Row → Row → Bool) (J : List Row → Option Row → Type 0) (passed : (rs : List Row) (r : Row) (best : Option Row) → p r ≡ false → J rs best → J (rs ++ (r ∷ [])) best) (begun : (rs : List Row) (r : Row) → p r ≡ true → J rs None → J (rs ++ (r ∷ [])) (Some r)) (taken : (rs : List Row) (r a : Row) → p r ≡ true → first r a ≡ true → J rs (Some a) → J (rs ++ (r ∷ [])) (Some r)) (kept : (rs : List Row) (r a : Row) → p r ≡ true → first r a ≡ false → J rs (Some a) → J (rs ++ (r ∷ [])) (Some a)) where
  from_some : (seen rs : List Row) (a : Row) → J seen (Some a) → J (seen ++ rs) (Some (fold (better first) a (filter p rs)))
  from_some seen [] a h = subst (λ xs. J xs (Some a)) (sym (append-nil seen)) h
  from_some seen (r ∷ rs) a h =
      subst (λ xs. J xs (Some (fold (better first) a (filter p (r ∷ rs))))) (append_assoc seen (r ∷ []) rs)
      (by (p r) refl (first r a) refl (from_some (seen ++ (r ∷ [])) rs))
    where
      by : (b : Bool) → p r ≡ b → (c : Bool) → first r a ≡ c → ((x : Row) → J (seen ++ (r ∷ [])) (Some x) → J ((seen ++ (r ∷ [])) ++ rs) (Some (fold (better first) x (filter p rs))))
          → J ((seen ++ (r ∷ [])) ++ rs) (Some (fold (better first) a (cond b (r ∷ filter p rs) (filter p rs))))
      by true t true u rest =
          subst (λ x. J ((seen ++ (r ∷ [])) ++ rs) (Some (fold (better first) x (filter p rs)))) (sym (cond-true (first r a) r a u)) (rest r (taken seen r a t u h))
      by true t false u rest =
          subst (λ x. J ((seen ++ (r ∷ [])) ++ rs) (Some (fold (better first) x (filter p rs)))) (sym (cond-false (first r a) r a u)) (rest a (kept seen r a t u h))
      by false t c u rest = rest a (passed seen r (Some a) t h)

  from_none : (seen rs : List Row) → J seen None → J (seen ++ rs) (reduce (better first) (filter p rs))
  from_none seen [] h = subst (λ xs. J xs None) (sym (append-nil seen)) h
  from_none seen (r ∷ rs) h =
      subst (λ xs. J xs (reduce (better first) (filter p (r ∷ rs)))) (append_assoc seen (r ∷ []) rs)
      (by (p r) refl (from_some (seen ++ (r ∷ [])) rs r) (from_none (seen ++ (r ∷ [])) rs))
    where
      by : (b : Bool) → p r ≡ b → (J (seen ++ (r ∷ [])) (Some r) → J ((seen ++ (r ∷ [])) ++ rs) (Some (fold (better first) r (filter p rs))))
          → (J (seen ++ (r ∷ [])) None → J ((seen ++ (r ∷ [])) ++ rs) (reduce (better first) (filter p rs)))
          → J ((seen ++ (r ∷ [])) ++ rs) (reduce (better first) (cond b (r ∷ filter p rs) (filter p rs)))
      by true t on rest = on (begun seen r t h)
      by false t on rest = rest (passed seen r None t h)

  pub best_met : (rs : List Row) → J [] None → J rs (reduce (better first) (filter p rs))
  best_met rs h = from_none [] rs h

-- Of the rows that rest and are partners, the best is the next partner

module _ (m : Market) (s : Side) (price : ℕ) where
  abbrev pub partners : Row → Bool
  partners r = rests r && is_partner m s price (row_order r)

  abbrev pub goes_ahead : Row → Row → Bool
  goes_ahead z a = ahead m s price (row_order z) (row_order a)

  abbrev Best : List Row → Option Row → Type 0
  Best rs best = option_map row_order best ≡ fold (better_of m s price) None (orders_in rs)

  grown : (rs : List Row) (r : Row) (best : Option Row) → Best rs best
      → fold (better_of m s price) (option_map row_order best) (orders_in (r ∷ [])) ≡ fold (better_of m s price) None (orders_in (rs ++ (r ∷ [])))
  grown rs r best h =
      ap (λ o. fold (better_of m s price) o (orders_in (r ∷ []))) h
      ∙ sym (ap (fold (better_of m s price) None) (orders_in_append rs (r ∷ [])) ∙ fold-append (better_of m s price) None (orders_in rs) (orders_in (r ∷ [])))

  looked_at : (rs : List Row) (r : Row) (best next : Option Row) → rests r ≡ true → option_map row_order next ≡ better_of m s price (option_map row_order best) (row_order r)
      → Best rs best → Best (rs ++ (r ∷ [])) next
  looked_at rs r best next t e h = e ∙ ap (fold (better_of m s price) (option_map row_order best)) (sym (orders_in_one r t)) ∙ grown rs r best h

  no_partner : (best : Option Row) (r : Row) → is_partner m s price (row_order r) ≡ false → option_map row_order best ≡ better_of m s price (option_map row_order best) (row_order r)
  no_partner None r n = sym (if_false (is_partner m s price (row_order r)) (Some (row_order r)) None n)
  no_partner (Some a) r n = sym (if_false (is_partner m s price (row_order r) && goes_ahead r a) (Some (row_order r)) (Some (row_order a)) (ap (λ b. b && goes_ahead r a) n))

  passed : (rs : List Row) (r : Row) (best : Option Row) → partners r ≡ false → Best rs best → Best (rs ++ (r ∷ [])) best
  passed rs r best f h = by (rests r) refl
    where
      by : (b : Bool) → rests r ≡ b → Best (rs ++ (r ∷ [])) best
      by true t = looked_at rs r best best t (no_partner best r (sym (ap (λ b. b && is_partner m s price (row_order r)) t) ∙ f)) h
      by false t = ap (fold (better_of m s price) (option_map row_order best)) (sym (orders_in_spent r [] t ∙ orders_in_none)) ∙ grown rs r best h

  pub partner_best : (rs : List Row) → option_map row_order (reduce (better goes_ahead) (filter partners rs)) ≡ fold (better_of m s price) None (orders_in rs)
  partner_best rs =
      best_met partners goes_ahead Best passed
      (λ xs r t h. let both = and_parts (rests r) (is_partner m s price (row_order r)) t in
      looked_at xs r None (Some r) both.0 (sym (if_true (is_partner m s price (row_order r)) (Some (row_order r)) None both.1)) h)
      (λ xs r a t u h. let both = and_parts (rests r) (is_partner m s price (row_order r)) t in
      looked_at xs r (Some a) (Some r) both.0 (sym (if_true (is_partner m s price (row_order r) && goes_ahead r a) (Some (row_order r)) (Some (row_order a)) (ap (λ b. b && goes_ahead r a) both.1 ∙ u))) h)
      (λ xs r a t u h. let both = and_parts (rests r) (is_partner m s price (row_order r)) t in
      looked_at xs r (Some a) (Some a) both.0 (sym (if_false (is_partner m s price (row_order r) && goes_ahead r a) (Some (row_order r)) (Some (row_order a)) (ap (λ b. b && goes_ahead r a) both.1 ∙ u))) h)
      rs (ap (fold (better_of m s price) None) (sym orders_in_none))
