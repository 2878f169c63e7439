-- A row is an order in the book's list. What `resting` finds is a row, and `lower` shortens the list or keeps each row, but for
-- shares. Cite: Same, From for an order of after that was there before; resting_in, lower_drops, lower_from.
use Rattle.std.proofs.Common.{◌≡◌, ℕ, suc, ◌<◌, ◌≤◌, eqb, leb, List, [], ◌∷◌, length, Some, None, sym, refl, ap, ◌∙◌, subst, inl, inr, arith}
use Rattle.std.proofs.lemmas.Bool.{eqb-true, leb-false, eqb-false}
use Rattle.rules.specs.Market.{Order, resting, lower, lowered, less}
use Rattle.rules.proofs.Cases.{none_some, if_both, some_same}
use Rattle.rules.proofs.Members.{In}

-- y is x, with other shares left
pub record Same (x y : Order) : Type 0 where
  pub number : x.number ≡ y.number
  pub terms : x.terms ≡ y.terms
  pub identifier : x.identifier ≡ y.identifier

pub same_itself : (x : Order) → Same x x
same_itself x = record { number = refl; terms = refl; identifier = refl }

pub resting_in : (k : ℕ) (os : List Order) (o : Order) → resting k os ≡ Some o → In o os × (o.number ≡ k)
unfolding resting
resting_in k [] o = λ e. absurd (none_some None o refl e)
resting_in k (x ∷ xs) o =
    if_both (eqb x.number k) (Some x) (resting k xs) (λ r. r ≡ Some o → In o (x ∷ xs) × (o.number ≡ k))
    (λ t e. let f : x ≡ o = some_same x o e in (inl (sym f), ap (λ (z : Order). z.number) (sym f) ∙ eqb-true x.number k t))
    (λ t e. let h = resting_in k xs o e in (inr h.0, h.1))

pub length_lower : (k n : ℕ) (os : List Order) → length (lower k n os) ≤ length os
unfolding lower
length_lower k n [] = omega arith
length_lower k n (o ∷ os) =
    let h = length_lower k n os in
    if_both (eqb o.number k) (lowered n o (lower k n os)) (o ∷ lower k n os) (λ r. length r ≤ suc (length os))
    (λ _. if_both (leb o.left n) (lower k n os) (less n o ∷ lower k n os) (λ r. length r ≤ suc (length os)) (λ _. omega arith) (λ _. omega arith))
    (λ _. omega arith)

-- a row with at most n shares goes
pub lower_drops : (k n : ℕ) (os : List Order) (o : Order) → In o os → o.number ≡ k → o.left ≤ n → length (lower k n os) < length os
unfolding lower
lower_drops k n [] o i e l = absurd i
lower_drops k n (x ∷ xs) o (inl i) e l =
    let h = length_lower k n xs in
    if_both (eqb x.number k) (lowered n x (lower k n xs)) (x ∷ lower k n xs) (λ r. length r < suc (length xs))
    (λ _. if_both (leb x.left n) (lower k n xs) (less n x ∷ lower k n xs) (λ r. length r < suc (length xs)) (λ _. omega arith)
    (λ f. let g : o.left ≡ x.left = ap (λ (z : Order). z.left) i in omega (arith, leb-false x.left n f)))
    (λ f. let g : o.number ≡ x.number = ap (λ (z : Order). z.number) i in absurd (eqb-false x.number k f (sym g ∙ e)))
lower_drops k n (x ∷ xs) o (inr i) e l =
    let h = lower_drops k n xs o i e l in
    if_both (eqb x.number k) (lowered n x (lower k n xs)) (x ∷ lower k n xs) (λ r. length r < suc (length xs))
    (λ _. if_both (leb x.left n) (lower k n xs) (less n x ∷ lower k n xs) (λ r. length r < suc (length xs)) (λ _. omega arith) (λ _. omega arith))
    (λ _. omega arith)

pub lower_keeps_other : (k n : ℕ) (os : List Order) (o : Order) → In o os → (o.number ≡ k → ⊥) → In o (lower k n os)
unfolding lower
lower_keeps_other k n [] o i d = i
lower_keeps_other k n (x ∷ xs) o (inl i) d =
    if_both (eqb x.number k) (lowered n x (lower k n xs)) (x ∷ lower k n xs) (λ r. In o r)
    (λ t. absurd (d (ap (λ (z : Order). z.number) i ∙ eqb-true x.number k t)))
    (λ _. inl i)
lower_keeps_other k n (x ∷ xs) o (inr i) d =
    let h = lower_keeps_other k n xs o i d in
    if_both (eqb x.number k) (lowered n x (lower k n xs)) (x ∷ lower k n xs) (λ r. In o r)
    (λ _. if_both (leb x.left n) (lower k n xs) (less n x ∷ lower k n xs) (λ r. In o r) (λ _. h) (λ _. inr h))
    (λ _. inr h)

-- the order y is, but for its shares, one of the list
abbrev pub From : List Order → Order → Type 0
From os y = (x : Order) × In x os × Same x y

from_tail : (x : Order) (xs : List Order) (y : Order) → From xs y → From (x ∷ xs) y
from_tail x xs y h = (h.0, inr h.1, h.2)

from_cons : (x : Order) (xs ys : List Order) (y z : Order) → Same x z → (In y ys → From xs y) → In y (z ∷ ys) → From (x ∷ xs) y
from_cons x xs ys y z s f (inl e) = (x, inl refl, subst (λ v. Same x v) (sym e) s)
from_cons x xs ys y z s f (inr i) = from_tail x xs y (f i)

pub lower_from : (k n : ℕ) (os : List Order) (y : Order) → In y (lower k n os) → From os y
unfolding lower
lower_from k n [] y = λ i. absurd i
lower_from k n (x ∷ xs) y =
    let f : In y (lower k n xs) → From xs y = lower_from k n xs y in
    if_both (eqb x.number k) (lowered n x (lower k n xs)) (x ∷ lower k n xs) (λ r. In y r → From (x ∷ xs) y)
    (λ _. if_both (leb x.left n) (lower k n xs) (less n x ∷ lower k n xs) (λ r. In y r → From (x ∷ xs) y) (λ _ i. from_tail x xs y (f i))
    (λ _. from_cons x xs (lower k n xs) y _ (record { number = refl; terms = refl; identifier = refl }) f))
    (λ _. from_cons x xs (lower k n xs) y x (same_itself x) f)
