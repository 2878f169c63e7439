-- Lawful identifiers: between one and twenty bytes, all of them printable ASCII without the blank (33 to 126).
use Rattle.std.specs.Prelude.{ℕ, Bool, ◌&&◌, List, length}
use Rattle.std.specs.List.{list_all}
use Rattle.terms.specs.Terms.{in_range}

-- the most bytes of one
abbrev pub longest : ℕ
longest = 20

-- the lowest and the highest byte that can be printed and is no blank
abbrev pub lowest : ℕ
lowest = 33

abbrev pub highest : ℕ
highest = 126

abbrev pub lawful_identifier : List ℕ → Bool
lawful_identifier identifier =
    in_range 1 (length identifier) longest && list_all (λ byte. in_range lowest byte highest) identifier
