-- An offset is written unless it is 0. Cite offset_there and offset_absent, with not_zero or zero of what the code tested.
use Rattle.std.proofs.Common.{◌≡◌, zero, suc, true, false, cond, [], ◌∷◌, ℤ, pos, negsuc, Some, None, refl, ap, arith, w32, of_z}
use Rattle.std.proofs.lemmas.Bool.{leb-true, lt-leb, le-leb}
use Rattle.terms.specs.Judging.{is_zero, offset_in_range}
use Rattle.register.specs.Layout.{Listed, offset_field}
use Rattle.register.specs.Numbers.{signed_bytes}
use Rattle.register.specs.Orders.{row_then}

pub not_zero : (z : ℤ) → (of_z w32 z ≡ 0 → ⊥) → is_zero z ≡ false
not_zero (pos zero) h = absurd (h refl)
not_zero (pos (suc k)) h = lt-leb (suc k) 0 (omega arith)
not_zero (negsuc k) h = refl

pub zero_is : (z : ℤ) → offset_in_range z ≡ true → of_z w32 z ≡ 0 → is_zero z ≡ true
zero_is (pos k) r h = le-leb k 0 (omega arith)
zero_is (negsuc k) r h = absurd (omega (arith, leb-true (suc k) 100 r))

module _ (o : Listed) where
  pub offset_there : is_zero o.draft.offset ≡ false → row_then 5 (offset_field.get o) [] ≡ record { tag = 5; value = signed_bytes o.draft.offset } ∷ []
  offset_there h = ap (λ b. row_then 5 (cond b None (Some (signed_bytes o.draft.offset))) []) h

  pub offset_absent : is_zero o.draft.offset ≡ true → row_then 5 (offset_field.get o) [] ≡ []
  offset_absent h = ap (λ b. row_then 5 (cond b None (Some (signed_bytes o.draft.offset))) []) h
