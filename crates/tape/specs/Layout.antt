-- A line in bytes. `layout` is the one text that says where what stands; writing and reading both follow it.
use Rattle.std.specs.Prelude.{ℕ, zero, suc, ◌+◌, ◌*◌, ◌/◌, ◌%◌, ◌^◌, ◌<◌, cond, List, [], ◌∷◌, ◌++◌, map, take, drop, Some, None, Option, ◌==◌, slice_index, slice_index_or}
use Rattle.std.specs.List.{range_with_len}
use Rattle.std.specs.Str.{bytes_eq}
use Rattle.tape.specs.declared.line.Line.{Line}
use Rattle.tape.specs.declared.line.Mark.{Mark}
use Rattle.tape.specs.declared.line.Mark.TheVariants.{Nothing, BidDepleted, OfferDepleted}

-- The fields of a line in their order, each a tag and the size of its value: time, partner, taker, shares, price, mark.
abbrev pub layout : List (ℕ × ℕ)
layout = (1, 8) ∷ (2, 4) ∷ (3, 4) ∷ (4, 4) ∷ (5, 4) ∷ (6, 1) ∷ []

-- what that comes to: for each field one byte of tag, two of length, and the value
abbrev pub line_length : ℕ
line_length = 43

abbrev pub mark_code : Mark → ℕ
mark_code Nothing = 0
mark_code BidDepleted = 1
mark_code OfferDepleted = 2

abbrev pub mark_of : ℕ → Mark
mark_of code = cond (code == 1) BidDepleted (cond (code == 2) OfferDepleted Nothing)

-- The values of a line, in the order of the layout, and the line that values make.
abbrev pub values : Line → List ℕ
values line = line.time ∷ line.partner ∷ line.taker ∷ line.shares ∷ line.price ∷ mark_code line.mark ∷ []

abbrev pub line_of : (ℕ → ℕ) → Line
line_of value =
    record { time = value 0; partner = value 1; taker = value 2; shares = value 3; price = value 4; mark = mark_of (value 5) }

-- Writing. So many last bytes of a number, most significant first.
abbrev pub bytes_of : ℕ → ℕ → List ℕ
bytes_of zero number = []
bytes_of (suc zero) number = number % 256 ∷ []
bytes_of (suc (suc size)) number = number / 256 ^ suc size % 256 ∷ bytes_of (suc size) number

-- A field is its tag, two bytes of length, and the value.
abbrev pub spelled : List (ℕ × ℕ) → List ℕ → List ℕ
spelled [] numbers = []
spelled (field ∷ fields) [] = []
spelled (field ∷ fields) (number ∷ numbers) =
    field.0 ∷ field.1 / 256 ∷ field.1 % 256 ∷ (bytes_of field.1 number ++ spelled fields numbers)

unfoldable pub line_bytes : Line → List ℕ
line_bytes line = spelled layout (values line)

abbrev pub tape_bytes : List Line → List ℕ
tape_bytes [] = []
tape_bytes (line ∷ later) = line_bytes line ++ tape_bytes later

-- Reading. The number that so many bytes spell, most significant first, from a place on.
abbrev pub number_at : List ℕ → ℕ → ℕ → ℕ
number_at bytes place zero = 0
number_at bytes place (suc zero) = slice_index bytes place
number_at bytes place (suc (suc size)) = number_at bytes place (suc size) * 256 + slice_index bytes (place + suc size)

-- Where the value of a field begins, and its size.
abbrev pub value_place : List (ℕ × ℕ) → ℕ → ℕ
value_place [] index = 0
value_place (field ∷ fields) zero = 3
value_place (field ∷ fields) (suc index) = 3 + field.1 + value_place fields index

abbrev pub value_size : ℕ → ℕ
value_size index = (slice_index_or layout index (0, 0)).1

-- What the value bytes of a line say, wherever it begins.
unfoldable pub line_at : List ℕ → ℕ → Line
line_at bytes place = line_of (λ index. number_at bytes (place + value_place layout index) (value_size index))

abbrev pub lines_in : List ℕ → ℕ → List Line
lines_in bytes count = map (λ index. line_at bytes (index * line_length)) (range_with_len 0 count)

-- The line that 43 bytes spell: none, unless they are that line's bytes, tags and lengths too.
abbrev pub line_read : List ℕ → Option Line
line_read bytes = cond (bytes_eq bytes (line_bytes (line_at bytes 0))) (Some (line_at bytes 0)) None

-- The line at a place in a row of lines, counted from 1.
abbrev pub line_in : List ℕ → ℕ → Option Line
line_in bytes zero = None
line_in bytes (suc index) = line_read (take line_length (drop (index * line_length) bytes))

-- The values fit their fields, as those of every line that the code holds.
abbrev pub InWidth : Line → Type 0
InWidth line =
    (line.time < 2 ^ 64)
    × (line.partner < 2 ^ 32) × (line.taker < 2 ^ 32) × (line.shares < 2 ^ 32) × (line.price < 2 ^ 32)
