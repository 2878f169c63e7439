-- The text of answers: what is gathered, and a line of a word and numbers.
use Rattle.std.specs.Prelude.{ℕ, List, [], ◌∷◌, ◌++◌, decimal}
use Rattle.std.specs.List.{flat_map}
use Rattle.day_file.specs.declared.output.Output.{Output}

-- the text gathered so far
abbrev pub text_of : Output → List ℕ
text_of output = output.bytes.items

abbrev pub blank_byte : ℕ
blank_byte = 32

abbrev pub end_of_line : ℕ
end_of_line = 10

-- a blank and a number in the decimal system
abbrev pub number_text : ℕ → List ℕ
number_text number = blank_byte ∷ decimal number

abbrev pub numbers_text : List ℕ → List ℕ
numbers_text numbers = flat_map number_text numbers

abbrev pub line_text : List ℕ → List ℕ → List ℕ
line_text word numbers = word ++ (numbers_text numbers ++ (end_of_line ∷ []))
