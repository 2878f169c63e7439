-- Numbers in bytes, most significant byte first.
use Rattle.std.specs.Prelude.{ℕ, ◌+◌, ◌-◌, ◌*◌, ◌/◌, ◌%◌, if◌then◌else◌, List, [], ◌∷◌, ℤ, pos, negsuc, fold, nat_lt}

abbrev pub number_from : List ℕ → ℕ
number_from bytes = fold (λ number byte. number * 256 + byte) 0 bytes

abbrev pub two_bytes : ℕ → List ℕ
two_bytes number = (number / 256 % 256) ∷ ((number % 256) ∷ [])

abbrev pub four_bytes : ℕ → List ℕ
four_bytes number =
    (number / 16777216 % 256) ∷ ((number / 65536 % 256) ∷ ((number / 256 % 256) ∷ ((number % 256) ∷ [])))

-- two's complement of 16 bits
abbrev pub signed_from : List ℕ → ℤ
signed_from bytes = if nat_lt (number_from bytes) 32768 then pos (number_from bytes) else negsuc (65535 - number_from bytes)

abbrev pub signed_bytes : ℤ → List ℕ
signed_bytes (pos size) = two_bytes size
signed_bytes (negsuc size) = two_bytes (65535 - size)
