-- The next partner is a partner and none goes ahead of it; where there is none, no order is a partner.
-- By the step of the fold: the best of the orders seen so far. Cite: next_in, next_none, next_best; the law is best_partner.
use Rattle.std.proofs.Common.{◌≡◌, ℕ, true, false, ◌&&◌, ◌⊎◌, List, [], ◌∷◌, Some, None, fold, Option, sym, refl, ap, ◌∙◌, subst, inl, inr}
use Rattle.std.proofs.lemmas.Bool.{and_parts, true≢false}
use Rattle.terms.specs.declared.side.Side.{Side}
use Rattle.rules.specs.Laws.{BestPartner, Chosen}
use Rattle.rules.specs.Market.{Market, Order}
use Rattle.rules.specs.Priority.{better_of, is_partner, ahead, next_partner, line_price, line_class}
use Rattle.rules.proofs.Cases.{if_both, some_same, none_some}
use Rattle.rules.proofs.ByKeys.{first_not_itself, first_through, first_not_back}
use Rattle.rules.proofs.Members.{In, all_in, in_has}

-- the best so far stays, or the order is the new best, and a partner
better_some : (m : Market) (s : Side) (p : ℕ) (r : Option Order) (o x : Order) → better_of m s p r o ≡ Some x
    → (r ≡ Some x) ⊎ ((o ≡ x) × (is_partner m s p o ≡ true))
better_some m s p None o x =
    if_both (is_partner m s p o) (Some o) None (λ v. v ≡ Some x → (None ≡ Some x) ⊎ ((o ≡ x) × (is_partner m s p o ≡ true)))
    (λ t e. inr (some_same o x e, t)) (λ _ e. inl e)
better_some m s p (Some y) o x =
    if_both (is_partner m s p o && ahead m s p o y) (Some o) (Some y) (λ v. v ≡ Some x → (Some y ≡ Some x) ⊎ ((o ≡ x) × (is_partner m s p o ≡ true)))
    (λ t e. inr (some_same o x e, (and_parts _ _ t).0)) (λ _ e. inl e)

better_none : (m : Market) (s : Side) (p : ℕ) (r : Option Order) (o : Order) → better_of m s p r o ≡ None → (r ≡ None) × (is_partner m s p o ≡ false)
better_none m s p None o =
    if_both (is_partner m s p o) (Some o) None (λ v. v ≡ None → (◌≡◌ {A = Option Order} None None) × (is_partner m s p o ≡ false))
    (λ _ e. absurd (none_some (Some o) o e refl)) (λ t _. (refl, t))
better_none m s p (Some y) o =
    if_both (is_partner m s p o && ahead m s p o y) (Some o) (Some y) (λ v. v ≡ None → (Some y ≡ None) × (is_partner m s p o ≡ false))
    (λ _ e. absurd (none_some (Some o) o e refl)) (λ _ e. absurd (none_some (Some y) y e refl))

fold_in : (m : Market) (s : Side) (p : ℕ) (os : List Order) (r : Option Order) (x : Order)
    → fold (better_of m s p) r os ≡ Some x → (r ≡ Some x) ⊎ (In x os × (is_partner m s p x ≡ true))
fold_in m s p [] r x e = inl e
fold_in m s p (o ∷ os) r x e = by_step (fold_in m s p os (better_of m s p r o) x e)
  where
    here : ((r ≡ Some x) ⊎ ((o ≡ x) × (is_partner m s p o ≡ true))) → (r ≡ Some x) ⊎ (In x (o ∷ os) × (is_partner m s p x ≡ true))
    here (inl f) = inl f
    here (inr f) = inr (inl (sym f.0), subst (λ z. is_partner m s p z ≡ true) f.0 f.1)

    by_step : ((better_of m s p r o ≡ Some x) ⊎ (In x os × (is_partner m s p x ≡ true)))
        → (r ≡ Some x) ⊎ (In x (o ∷ os) × (is_partner m s p x ≡ true))
    by_step (inl f) = here (better_some m s p r o x f)
    by_step (inr f) = inr (inr f.0, f.1)

fold_none : (m : Market) (s : Side) (p : ℕ) (os : List Order) (r : Option Order) → fold (better_of m s p) r os ≡ None
    → (r ≡ None) × ((x : Order) → In x os → is_partner m s p x ≡ false)
fold_none m s p [] r e = (e, λ x i. absurd i)
fold_none m s p (o ∷ os) r e =
    let h = fold_none m s p os (better_of m s p r o) e in
    let g = better_none m s p r o h.0 in
    (g.0, λ x i. elim i [ inl q ↦ subst (λ z. is_partner m s p z ≡ false) (sym q) g.1 | inr j ↦ h.1 x j ])

-- the next partner is one of the orders, and a partner
pub next_in : (m : Market) (s : Side) (p : ℕ) (os : List Order) (x : Order) → next_partner m s p os ≡ Some x → In x os × (is_partner m s p x ≡ true)
unfolding next_partner
next_in m s p os x e = found (fold_in m s p os None x e)
  where
    found : ((None ≡ Some x) ⊎ (In x os × (is_partner m s p x ≡ true))) → In x os × (is_partner m s p x ≡ true)
    found (inl f) = absurd (none_some None x refl f)
    found (inr f) = f

-- where there is none, no order is a partner
pub next_none : (m : Market) (s : Side) (p : ℕ) (os : List Order) → next_partner m s p os ≡ None → (x : Order) → In x os → is_partner m s p x ≡ false
unfolding next_partner
next_none m s p os e = (fold_none m s p os None e).1

abbrev reverse_onto : List Order → List Order → List Order
reverse_onto [] seen = seen
reverse_onto (o ∷ os) seen = reverse_onto os (o ∷ seen)

abbrev pub Best : Market → Side → ℕ → List Order → Order → Type 0
Best m s p os x = (y : Order) → In y os → is_partner m s p y ≡ true → ahead m s p y x ≡ false

not_ahead_itself : (m : Market) (s : Side) (p : ℕ) (x : Order) → ahead m s p x x ≡ false
not_ahead_itself m s p x = first_not_itself s (line_price m p x) (line_class m p x) x.number

through : (m : Market) (s : Side) (p : ℕ) (x y z : Order) → ahead m s p x y ≡ false → ahead m s p y z ≡ false → ahead m s p x z ≡ false
through m s p x y z e f = first_through s (line_price m p x) (line_class m p x) x.number (line_price m p y) (line_class m p y) y.number (line_price m p z) (line_class m p z) z.number e f

not_back : (m : Market) (s : Side) (p : ℕ) (x y : Order) → ahead m s p x y ≡ true → ahead m s p y x ≡ false
not_back m s p x y e = first_not_back s (line_price m p x) (line_class m p x) x.number (line_price m p y) (line_class m p y) y.number e

-- of the orders seen so far, r is the best partner
abbrev Leads : Market → Side → ℕ → List Order → Option Order → Type 0
Leads m s p os None = (y : Order) → In y os → is_partner m s p y ≡ false
Leads m s p os (Some x) = Best m s p os x

-- beside those seen, the order o
better_leads : (m : Market) (s : Side) (p : ℕ) (os : List Order) (r : Option Order) (o : Order) → Leads m s p os r
    → Leads m s p (o ∷ os) (better_of m s p r o)
better_leads m s p os None o h =
    if_both (is_partner m s p o) (Some o) None (Leads m s p (o ∷ os))
    (λ _ y i t. elim i [ inl q ↦ subst (λ z. ahead m s p z o ≡ false) (sym q) (not_ahead_itself m s p o) | inr j ↦ absurd (true≢false (sym t ∙ h y j)) ])
    (λ f y i. elim i [ inl q ↦ subst (λ z. is_partner m s p z ≡ false) (sym q) f | inr j ↦ h y j ])
better_leads m s p os (Some x) o h =
    if_both (is_partner m s p o && ahead m s p o x) (Some o) (Some x) (Leads m s p (o ∷ os))
    (λ f y i t. elim i [
      | inl q ↦ subst (λ z. ahead m s p z o ≡ false) (sym q) (not_ahead_itself m s p o)
      | inr j ↦ through m s p y x o (h y j t) (not_back m s p o x (and_parts _ _ f).1)
    ])
    (λ f y i t. elim i [
      | inl q ↦ subst (λ z. ahead m s p z x ≡ false) (sym q) (behind (subst (λ z. is_partner m s p z ≡ true) q t) f)
      | inr j ↦ h y j t
    ])
  where
    behind : is_partner m s p o ≡ true → (is_partner m s p o && ahead m s p o x) ≡ false → ahead m s p o x ≡ false
    behind t f = sym (ap (λ b. b && ahead m s p o x) t) ∙ f

fold_leads : (m : Market) (s : Side) (p : ℕ) (os seen : List Order) (r : Option Order) → Leads m s p seen r
    → Leads m s p (reverse_onto os seen) (fold (better_of m s p) r os)
fold_leads m s p [] seen r h = h
fold_leads m s p (o ∷ os) seen r h = fold_leads m s p os (o ∷ seen) (better_of m s p r o) (better_leads m s p seen r o h)

in_onto : (os seen : List Order) (y : Order) → In y os ⊎ In y seen → In y (reverse_onto os seen)
in_onto [] seen y = elim [ inl i ↦ absurd i | inr i ↦ i ]
in_onto (o ∷ os) seen y = elim [ inl i ↦ elim i [ inl q ↦ in_onto os (o ∷ seen) y (inr (inl q)) | inr j ↦ in_onto os (o ∷ seen) y (inl j) ] | inr i ↦ in_onto os (o ∷ seen) y (inr (inr i)) ]

pub next_best : (m : Market) (s : Side) (p : ℕ) (os : List Order) (x : Order) → next_partner m s p os ≡ Some x → Best m s p os x
unfolding next_partner
next_best m s p os x e y i t =
    let h : Leads m s p (reverse_onto os []) (Some x) = subst (Leads m s p (reverse_onto os [])) e (fold_leads m s p os [] None (λ z j. absurd j)) in
    h y (in_onto os [] y (inl i)) t

pub best_partner : BestPartner
best_partner m s p = by_choice (next_partner m s p m.orders) refl
  where
    by_choice : (r : Option Order) → next_partner m s p m.orders ≡ r → Chosen m s p m.orders r
    by_choice None e = all_in _ m.orders (next_none m s p m.orders e)
    by_choice (Some x) e =
        let h = next_in m s p m.orders x e in
        (in_has m.orders x h.0, h.1, all_in _ m.orders (next_best m s p m.orders x e))
