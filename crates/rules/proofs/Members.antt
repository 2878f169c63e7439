-- Membership by place in a list, and its link to `Every` and `Has`.
-- Cite: all_in to show `Every` of every member, in_all to read it, in_has where a law says `Has`.
use Rattle.std.proofs.Common.{◌≡◌, ◌⊎◌, List, [], ◌∷◌, ◌++◌, sym, refl, subst, inl, inr}
use Rattle.std.proofs.ByRecursion.{all-has, all_has_itself}
use Rattle.std.specs.List.{ContainsAt as Has, AllByRecursion as Every}

abbrev pub In : {X : Type 0} → X → List X → Type 0
In x [] = ⊥
In x (y ∷ ys) = (x ≡ y) ⊎ In x ys

pub all_in : {X : Type 0} (P : X → Type 0) (xs : List X) → ((x : X) → In x xs → P x) → Every P xs
all_in P [] h = tt
all_in P (x ∷ xs) h = (h x (inl refl), all_in P xs (λ y i. h y (inr i)))

pub in_all : {X : Type 0} (P : X → Type 0) (xs : List X) (x : X) → Every P xs → In x xs → P x
in_all P [] x h i = absurd i
in_all P (y ∷ ys) x h (inl e) = subst P (sym e) h.0
in_all P (y ∷ ys) x h (inr i) = in_all P ys x h.1 i

pub in_has : {X : Type 0} (xs : List X) (x : X) → In x xs → Has xs x
in_has xs x i = in_all (Has xs) xs x (all_has_itself xs) i

pub has_in : {X : Type 0} (xs : List X) (x : X) → Has xs x → In x xs
has_in xs x h = all-has (λ y. In y xs) xs x (all_in (λ y. In y xs) xs (λ y i. i)) h

-- one more at the end
pub in_push : {X : Type 0} (xs : List X) (y x : X) → In x (xs ++ (y ∷ [])) → In x xs ⊎ (x ≡ y)
in_push [] y x = elim [ inl e ↦ inr e | inr i ↦ absurd i ]
in_push (z ∷ zs) y x = elim [ inl e ↦ inl (inl e) | inr i ↦ later (in_push zs y x i) ]
  where
    later : In x zs ⊎ (x ≡ y) → In x (z ∷ zs) ⊎ (x ≡ y)
    later (inl i) = inl (inr i)
    later (inr e) = inr e
