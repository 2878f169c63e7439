-- Numbers in bytes and back. Cite two_back, four_back and signed_back of what was written, two_again, four_again and
-- signed_again of what was read.
use Rattle.std.proofs.Common.{◌≡◌, ℕ, zero, suc, ◌+◌, ◌-◌, ◌*◌, ◌/◌, ◌%◌, ◌^◌, ◌<◌, Bool, true, false, cond, ltb, [], ◌∷◌, ℤ, pos, negsuc, sym, refl, ap, ◌∙◌, arith}
use native.Mathlib.Nat.{div-div-eq-div-mul}
use Rattle.std.proofs.lemmas.Bool.{lt-ltb, le-ltb, lt-leb, cond-true, cond-false}
use Rattle.terms.specs.Judging.{is_zero}
use Rattle.register.specs.Numbers.{number_from, two_bytes, four_bytes, signed_from, signed_bytes}
use Rattle.register.specs.RoundTrip.{In16Bits}

pub two_back : (n : ℕ) → n < 65536 → number_from (two_bytes n) ≡ n
two_back n h = omega arith

-- a byte more below the bytes of a number above
next_byte : (x m n : ℕ) → x / m / 256 ≡ x / n → x / n * 256 + x / m % 256 ≡ x / m
next_byte x m n e = let same : x / m / 256 * 256 + x / m % 256 ≡ x / m = omega arith in ap (λ q. q * 256 + x / m % 256) (sym e) ∙ same

three_below : (x q : ℕ) → q ≡ x / 16777216 → ((q * 256 + x / 65536 % 256) * 256 + x / 256 % 256) * 256 + x % 256 ≡ x
three_below x q e =
    ap (λ n. ((n * 256 + x / 65536 % 256) * 256 + x / 256 % 256) * 256 + x % 256) e
    ∙ ap (λ n. (n * 256 + x / 256 % 256) * 256 + x % 256) (next_byte x 65536 16777216 (div-div-eq-div-mul x 65536 256))
    ∙ ap (λ n. n * 256 + x % 256) (next_byte x 256 65536 (div-div-eq-div-mul x 256 256))
    ∙ omega arith

pub four_back : (x : ℕ) → x < 2 ^ 32 → number_from (four_bytes x) ≡ x
four_back x h = three_below x (0 * 256 + x / 16777216 % 256) (omega arith)

positive : (n : ℕ) → (n ≡ 0 → ⊥) → 0 < n
positive zero h = absurd (h refl)
positive (suc n) h = omega arith

signed_of : ℕ → ℤ
signed_of n = cond (ltb n 32768) (pos n) (negsuc (65535 - n))

pub signed_back : (z : ℤ) → In16Bits z → signed_from (signed_bytes z) ≡ z
unfolding signed_of
signed_back (pos k) h =
    ap signed_of (two_back k (omega arith)) ∙ cond-true (ltb k 32768) (pos k) (negsuc (65535 - k)) (lt-ltb k 32768 h)
signed_back (negsuc k) h =
    let back : 65535 - (65535 - k) ≡ k = omega arith in
    ap signed_of (two_back (65535 - k) (omega arith))
    ∙ cond-false (ltb (65535 - k) 32768) (pos (65535 - k)) (negsuc (65535 - (65535 - k))) (le-ltb (65535 - k) 32768 (omega arith))
    ∙ ap negsuc back

-- the bytes of a number that was read from bytes
pub two_again : (a b : ℕ) → a < 256 → b < 256 → two_bytes (number_from (a ∷ (b ∷ []))) ≡ a ∷ (b ∷ [])
two_again a b ha hb =
    let n = (0 * 256 + a) * 256 + b in
    let high : n / 256 % 256 ≡ a = omega arith in
    let low : n % 256 ≡ b = omega arith in
    ap (λ x. x ∷ ((n % 256) ∷ [])) high ∙ ap (λ x. a ∷ (x ∷ [])) low

pub four_again : (a b c d : ℕ) → a < 256 → b < 256 → c < 256 → d < 256 → four_bytes (number_from (a ∷ (b ∷ (c ∷ (d ∷ []))))) ≡ a ∷ (b ∷ (c ∷ (d ∷ [])))
four_again a b c d ha hb hc hd =
    let n = (((0 * 256 + a) * 256 + b) * 256 + c) * 256 + d in
    let first : n / 16777216 % 256 ≡ a = omega arith in
    let second : n / 65536 % 256 ≡ b = omega arith in
    let third : n / 256 % 256 ≡ c = omega arith in
    let last : n % 256 ≡ d = omega arith in
    ap (λ x. x ∷ ((n / 65536 % 256) ∷ ((n / 256 % 256) ∷ ((n % 256) ∷ [])))) first
    ∙ ap (λ x. a ∷ (x ∷ ((n / 256 % 256) ∷ ((n % 256) ∷ [])))) second
    ∙ ap (λ x. a ∷ (b ∷ (x ∷ ((n % 256) ∷ [])))) third
    ∙ ap (λ x. a ∷ (b ∷ (c ∷ (x ∷ [])))) last

-- an offset that was read and is not 0
module _ (a b : ℕ) (ha : a < 256) (hb : b < 256) where
  abbrev value : ℕ
  value = number_from (a ∷ (b ∷ []))

  signed_if : (t : Bool) → ltb value 32768 ≡ t → (value ≡ 0 → ⊥) → (signed_bytes (signed_from (a ∷ (b ∷ []))) ≡ a ∷ (b ∷ [])) × (is_zero (signed_from (a ∷ (b ∷ []))) ≡ false)
  signed_if true h nz =
      let is = cond-true (ltb value 32768) (pos value) (negsuc (65535 - value)) h in
      (ap signed_bytes is ∙ two_again a b ha hb, ap is_zero is ∙ lt-leb value 0 (positive value nz))
  signed_if false h nz =
      let is = cond-false (ltb value 32768) (pos value) (negsuc (65535 - value)) h in
      let back : 65535 - (65535 - value) ≡ value = omega arith in
      (ap signed_bytes is ∙ ap two_bytes back ∙ two_again a b ha hb, ap is_zero is)

  pub signed_again : (value ≡ 0 → ⊥) → (signed_bytes (signed_from (a ∷ (b ∷ []))) ≡ a ∷ (b ∷ [])) × (is_zero (signed_from (a ∷ (b ∷ []))) ≡ false)
  signed_again = signed_if (ltb value 32768) refl
