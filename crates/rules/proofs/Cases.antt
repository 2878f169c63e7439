-- Cases of a test and of an option, with what they tell. Where a definition branches by `if` or `elim`, a fact P of it follows from P
-- of each branch. Cite: if_both, option_both with the P written out; the others where an equation is wanted.
use Rattle.std.proofs.Common.{◌≡◌, ℕ, Bool, true, false, ◌⊎◌, Some, None, Option, refl, inl, inr, arith}
pub use Rattle.std.proofs.lemmas.Bool.{cond_both as if_both, cond-true as if_true, cond-false as if_false}
use Rattle.std.specs.Prelude.{not}
use Rattle.rules.specs.declared.refusal.Refusal.{Refusal}
use Rattle.rules.specs.Answers.{refused}

pub not_false : (b : Bool) → not b ≡ true → b ≡ false
not_false false e = refl
not_false true e = cc

pub not_true : (b : Bool) → not b ≡ false → b ≡ true
not_true true e = refl
not_true false e = cc

pub option_both : {A B : Type 0} (o : Option A) (x : B) (f : A → B) (P : B → Type 0) → (o ≡ None → P x)
    → ((a : A) → o ≡ Some a → P (f a)) → P (elim o [ None ↦ x | Some a ↦ f a ])
option_both None x f P n s = n refl
option_both (Some a) x f P n s = s a refl

pub option_none : {A B : Type 0} (o : Option A) (x : B) (f : A → B) → o ≡ None → elim o as (λ _. B) [ None ↦ x | Some a ↦ f a ] ≡ x
option_none None x f e = refl
option_none (Some a) x f e = cc

pub option_some : {A B : Type 0} (o : Option A) (x : B) (f : A → B) (a : A) → o ≡ Some a → elim o as (λ _. B) [ None ↦ x | Some z ↦ f z ] ≡ f a
option_some None x f a e = cc
option_some (Some z) x f a e = cc

pub option_cases : {A : Type 0} (o : Option A) → (o ≡ None) ⊎ ((a : A) × (o ≡ Some a))
option_cases None = inl refl
option_cases (Some a) = inr (a, refl)

pub some_same : {X : Type 0} (x y : X) → Some x ≡ Some y → x ≡ y
some_same x y e = cc

pub none_some : {X : Type 0} (o : Option X) (x : X) → o ≡ None → o ≡ Some x → ⊥
none_some o x e f = let z : ◌≡◌ {A = ℕ} 0 1 = cc in omega arith

pub same_refusal : (why other : Refusal) → refused why ≡ refused other → why ≡ other
same_refusal why other e = cc

abbrev pub Either : Bool → Type 0
Either b = (b ≡ true) ⊎ (b ≡ false)
