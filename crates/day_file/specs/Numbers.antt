-- Whole numbers in text.
use Rattle.std.specs.Prelude.{ℕ, ◌+◌, ◌-◌, ◌*◌, ◌^◌, min, if◌then◌else◌, ◌&&◌, List, [], ◌∷◌, Some, None, Option, option_map, ℤ, pos, negsuc, neg_ℤ, ◌==◌, nat_le}

-- the largest number of so many bits
abbrev pub most_of : ℕ → ℕ
most_of bits = 2 ^ bits - 1

-- the largest number of 64 bits
abbrev pub most : ℕ
most = most_of 64

-- bytes of text
abbrev pub digit_0 : ℕ
digit_0 = 48

abbrev pub digit_9 : ℕ
digit_9 = 57

abbrev pub minus : ℕ
minus = 45

-- a size with one digit more, as far as 64 bits go
abbrev pub size_from : ℕ → ℕ → Option ℕ
size_from size byte =
    if nat_le digit_0 byte && nat_le byte digit_9
    then Some (min (min (size * 10) most + (byte - digit_0)) most)
    else None

-- digits that follow a size
unfoldable pub size_on : ℕ → List ℕ → Option ℕ
size_on size [] = Some size
size_on size (byte ∷ bytes) = elim (size_from size byte) [ None ↦ None | Some more ↦ size_on more bytes ]

abbrev pub size_in : List ℕ → Option ℕ
size_in [] = None
size_in (byte ∷ bytes) = size_on 0 (byte ∷ bytes)

-- digits, which a minus may precede
abbrev pub whole_in : List ℕ → Option ℤ
whole_in [] = None
whole_in (byte ∷ bytes) =
    if byte == minus
    then option_map (λ size. neg_ℤ (pos size)) (size_in bytes)
    else option_map pos (size_in (byte ∷ bytes))

-- the number in a field that holds 0 to `top`
abbrev pub within : ℕ → ℤ → ℕ
within top (pos size) = min size top
within top (negsuc size) = top

-- an offset as it is handed on: one that is far out of range is still out of range, and no further than this
abbrev pub far_offset : ℕ
far_offset = 1000

abbrev pub near : ℤ → ℤ
near (pos size) = pos (min size far_offset)
near (negsuc size) = negsuc (min size (far_offset - 1))
