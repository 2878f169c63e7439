-- The short name, made by copying at most 12 bytes of the identifier over 12 blanks. Cite copied_is_short.
use Rattle.std.proofs.Common.{◌≡◌, ℕ, zero, suc, ◌-◌, ◌<◌, ◌≤◌, min, ◌⊎◌, List, [], ◌∷◌, ◌++◌, length, take, drop, replicate, sym, refl, ap, ◌∙◌, inl, inr, arith}
use native.Mathlib.Nat.{sub-zero, suc-sub-suc, zero-sub}
use borrow.Rule.Slice.PartMut.{post_of}
use Rattle.std.proofs.lemmas.List.{take-replicate, drop-replicate, take_all}
use Rattle.std.proofs.lemmas.Bool.{cases_lt}
use Rattle.register.specs.Layout.{short_name}

-- the front of a list that is followed by blanks enough
filled : (m n : ℕ) (id : List ℕ) → m ≤ n → take m (id ++ replicate n 32) ≡ take m id ++ replicate (m - length id) 32
filled zero n [] h = refl
filled (suc m) n [] h = rw (sub-zero (suc m)) (take-replicate (suc m) n 32 h)
filled zero n (x ∷ xs) h = rw (zero-sub (suc (length xs)))
filled (suc m) n (x ∷ xs) h = rw (suc-sub-suc m (length xs)) (ap (λ zs. x ∷ zs) (filled m n xs (omega arith)))

-- as many bytes as there are, at most 12
taken : (id : List ℕ) (n : ℕ) → n ≡ min (length id) 12 → take n id ≡ take 12 id
taken id n e = by (cases_lt (length id) 12)
  where
    by : (length id < 12) ⊎ (12 ≤ length id) → take n id ≡ take 12 id
    by (inl h) = take_all n id (omega arith) ∙ sym (take_all 12 id (omega arith))
    by (inr h) = let k : n ≡ 12 = omega arith in ap (λ z. take z id) k

pub copied_is_short : (id ys : List ℕ) (n : ℕ) → n ≡ min (length id) 12 → ys ≡ take (n - 0) id → ys ++ post_of 0 (n - 0) (replicate 12 32) ≡ short_name id
copied_is_short id ys n e h =
    ap (λ zs. zs ++ drop (n - 0) (replicate 12 32)) (h ∙ ap (λ k. take k id) (sub-zero n) ∙ taken id n e)
    ∙ ap (λ zs. take 12 id ++ zs) (drop-replicate (n - 0) 12 32 ∙ ap (λ k. replicate k 32) (omega arith))
    ∙ sym (filled 12 12 id (omega arith))
