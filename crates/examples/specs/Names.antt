-- Which names identify an order, and by which number an entry with another is refused.
use Rattle.std.specs.Prelude.{◌≡◌, ℕ, List, [], ◌∷◌, replicate}
use Rattle.rules.specs.Calls.{call, entry}
use Rattle.rules.specs.Codes.{Told, told}
use Rattle.rules.specs.Runs.{opened}
use Rattle.examples.specs.Examples.{displayed_buy}

-- what the first entry of a day is told, in numbers
abbrev pub entry_is_told : List ℕ → Told
entry_is_told identifier = told (call 64 (entry 0 identifier (displayed_buy 1)) (opened 1000 1001)).answer

-- 20 bytes pass, as entry 1; 21 are refused 7
abbrev pub NamesAsTold : Type 0
NamesAsTold =
    (entry_is_told (replicate 20 65) ≡ record { number = 0; values = 1 ∷ (0 ∷ (0 ∷ [])) })
    × (entry_is_told (replicate 21 65) ≡ record { number = 7; values = [] })
