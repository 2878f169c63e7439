-- Bytes put over others from a place on, one part after another. Cite put_none, put_put and
-- length_put, and put_two for two parts of a slice that were copied into.
use Rattle.std.proofs.Common.{◌≡◌, ℕ, ◌+◌, ◌-◌, ◌≤◌, List, [], ◌++◌, length, take, drop, sym, refl, ap, ◌∙◌, add-zero, arith}
use borrow.Rule.Slice.PartMut.{put_mid}
use lib.Seq.{paste}
use Rattle.std.proofs.lemmas.List.{length-append, take-append-drop}
use Rattle.std.proofs.lemmas.List.Edits.{paste-paste, paste_all, length-paste}
use Rattle.std.proofs.lemmas.Slice.{put_mid-paste}
use Rattle.register.specs.Filling.{put_at}

put_is : (was : List ℕ) (m : ℕ) (bs : List ℕ) → put_at was m bs ≡ paste was m bs (length bs)
put_is was m bs = sym (paste_all was m bs (length bs) refl)

pub put_none : (was : List ℕ) (m : ℕ) → put_at was m [] ≡ was
put_none was m = ap (λ n. take m was ++ drop n was) (add-zero m) ∙ take-append-drop m was

pub length_put : (was : List ℕ) (m : ℕ) (bs : List ℕ) → m + length bs ≤ length was → length (put_at was m bs) ≡ length was
length_put was m bs h = ap length (put_is was m bs) ∙ length-paste was m bs (length bs) h (omega arith)

pub put_put : (was : List ℕ) (m : ℕ) (xs ys : List ℕ) → m ≤ length was → put_at (put_at was m xs) (m + length xs) ys ≡ put_at was m (xs ++ ys)
put_put was m xs ys h =
    put_is (put_at was m xs) (m + length xs) ys
    ∙ ap (λ zs. paste zs (m + length xs) ys (length ys)) (put_is was m xs)
    ∙ paste-paste was m xs ys (length xs) (length ys) refl refl h
    ∙ ap (λ n. paste was m (xs ++ ys) n) (sym (length-append xs ys))
    ∙ sym (put_is was m (xs ++ ys))

pub put_two : (was xs ys xs_now ys_now : List ℕ) (m n : ℕ) → m ≤ length was → length xs ≡ n → xs_now ≡ xs → ys_now ≡ ys → put_mid (m + n) (m + n + length ys - (m + n)) (put_mid m (m + n - m) was xs_now) ys_now ≡ put_at was m (xs ++ ys)
put_two was xs ys xs_now ys_now m n h size xs_is ys_is =
    put_mid-paste (m + n) (m + n + length ys - (m + n)) (put_mid m (m + n - m) was xs_now) ys_now ys (length ys) ys_is (omega arith) refl
    ∙ ap (λ zs. paste zs (m + n) ys (length ys)) (put_mid-paste m (m + n - m) was xs_now xs (length xs) xs_is (omega (arith, size)) refl ∙ sym (put_is was m xs))
    ∙ ap (λ k. paste (put_at was m xs) (m + k) ys (length ys)) (sym size)
    ∙ sym (put_is (put_at was m xs) (m + length xs) ys)
    ∙ put_put was m xs ys h
