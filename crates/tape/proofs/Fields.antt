-- Fields written one after another, each over the bytes that follow the last. Cite `field_put` for one field,
-- `field_more` for the next.
use Rattle.std.proofs.Common.{◌≡◌, ℕ, ◌+◌, ◌≤◌, List, ◌∷◌, ◌++◌, length, sym, refl, ap, ◌∙◌}
use borrow.Rule.Slice.PartMut.{put_mid}
use lib.Seq.{paste}
use Rattle.std.proofs.lemmas.List.Edits.{paste-paste}
use Rattle.std.proofs.lemmas.Slice.{put_mid-paste}

pub field_put : (bytes head value head_now value_now : List ℕ) (at n m k : ℕ) → at ≤ length bytes → head_now ≡ head → value_now ≡ value → length head ≡ n → n ≡ m → length value ≡ k → put_mid (at + n) k (put_mid at m bytes head_now) value_now ≡ paste bytes at (head ++ value) (n + length value)
field_put bytes head value head_now value_now at n m k fits head_is value_is size same rest =
    put_mid-paste (at + n) k (put_mid at m bytes head_now) value_now value (length value) value_is rest refl
    ∙ ap (λ xs. paste xs (at + n) value (length value)) (put_mid-paste at m bytes head_now head n head_is same (sym size))
    ∙ paste-paste bytes at head value n (length value) (sym size) refl fits

pub field_more : (bytes so_far next s t : List ℕ) (at place n m : ℕ) → at ≤ length bytes → place ≡ at + n → n ≡ length s → m ≡ length t → so_far ≡ paste bytes at s n → next ≡ paste so_far place t m → next ≡ paste bytes at (s ++ t) (n + m)
field_more bytes so_far next s t at place n m within here sn tm is wrote =
    wrote
    ∙ ap (λ p. paste so_far p t m) here
    ∙ ap (λ xs. paste xs (at + n) t m) is
    ∙ paste-paste bytes at s t n m sn tm within

-- a field whose value is spelled so
pub spelled_so : (was next value spelled : List ℕ) (at tag : ℕ) → value ≡ spelled → next ≡ paste was at (tag ∷ 0 ∷ length value ∷ value) (3 + length value) → next ≡ paste was at (tag ∷ 0 ∷ length spelled ∷ spelled) (3 + length spelled)
spelled_so was next value spelled at tag is wrote = wrote ∙ ap (λ v. paste was at (tag ∷ 0 ∷ length v ∷ v) (3 + length v)) is
