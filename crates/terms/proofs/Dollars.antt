-- What `{:03}` writes of a number below 1000: its three digits. Cite `dollars` for a price in half-cents.
use Rattle.std.proofs.Common.{◌≡◌, ℕ, ◌+◌, ◌-◌, ◌*◌, ◌^◌, ◌<◌, ◌≤◌, ◌/◌, ◌%◌, false, List, [], ◌∷◌, ◌++◌, arith, ⊎_elim}
use Rattle.std.specs.Fmt.{decimal, padded_integral, format_spec, char_count}
use Rattle.std.proofs.lemmas.Bool.{cases_lt}
use Rattle.std.proofs.lemmas.Fmt.{decimal_digit, decimal_step}

abbrev three : ℕ → List ℕ
three n = (48 + n / 100) ∷ (48 + n / 10 % 10) ∷ (48 + n % 10) ∷ []

two_digits : (n : ℕ) → 10 ≤ n → n < 100 → decimal n ≡ (48 + n / 10) ∷ (48 + n % 10) ∷ []
two_digits n low high = rw (decimal_step n low (omega arith), decimal_digit (n / 10) (omega arith))

three_digits : (n : ℕ) → 100 ≤ n → n < 1000 → decimal n ≡ three n
three_digits n low high =
    let front : n / 10 / 10 ≡ n / 100 = omega arith in
    rw (decimal_step n (omega arith) (omega arith), two_digits (n / 10) (omega arith) (omega arith), front)

pub written_in_three : (n : ℕ) → n < 1000 → padded_integral (format_spec 32 0 4 3 (2 ^ 64 - 1)) false [] (decimal n) ≡ three n
unfolding padded_integral char_count
written_in_three n small = ⊎_elim
    (λ one. let high : n / 100 ≡ 0 = omega arith in let mid : n / 10 % 10 ≡ 0 = omega arith in let low : n % 10 ≡ n = omega arith in rw (decimal_digit n one, high, mid, low))
    (λ more. ⊎_elim
    (λ two. let high : n / 100 ≡ 0 = omega arith in let mid : n / 10 % 10 ≡ n / 10 = omega arith in rw (two_digits n more two, high, mid))
    (λ rest. rw (three_digits n rest small))
    (cases_lt n 100))
    (cases_lt n 10)

pub dollars : (p : ℕ) → padded_integral (format_spec 32 0 4 3 (2 ^ 64 - 1)) false [] (decimal (p * 5 % 1000)) ≡ decimal (p * 5 / 100 % 10) ++ (decimal (p * 5 / 10 % 10) ++ decimal (p * 5 % 10))
dollars p =
    let high : p * 5 % 1000 / 100 ≡ p * 5 / 100 % 10 = omega arith in
    let mid : p * 5 % 1000 / 10 % 10 ≡ p * 5 / 10 % 10 = omega arith in
    let low : p * 5 % 1000 % 10 ≡ p * 5 % 10 = omega arith in
    rw (written_in_three (p * 5 % 1000) (omega arith), high, mid, low, decimal_digit (p * 5 / 100 % 10) (omega arith), decimal_digit (p * 5 / 10 % 10) (omega arith), decimal_digit (p * 5 % 10) (omega arith))
