-- What a test chooses, by its answer. Cite if_true and if_not.
use Rattle.std.proofs.Common.{◌≡◌, Bool, true, false, refl}

pub if_true : {A : Type 0} (b : Bool) (x y : A) → b ≡ true → elim b as (λ _. A) [ true ↦ x | false ↦ y ] ≡ x
if_true true x y e = refl
if_true false x y e = cc

pub if_not : {A : Type 0} (b : Bool) (x y : A) → b ≡ false → elim b as (λ _. A) [ true ↦ x | false ↦ y ] ≡ y
if_not true x y e = cc
if_not false x y e = refl
