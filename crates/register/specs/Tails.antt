-- The end of a list, and a part of it at a place.
use Rattle.std.specs.Prelude.{◌≡◌, ℕ, ◌-◌, List, length, take, drop}

-- the bytes end with `rest`
abbrev pub Tail : List ℕ → List ℕ → Type 0
Tail bytes rest = drop (length bytes - length rest) bytes ≡ rest

-- `part` stands in the bytes from the place on
abbrev pub StandsAt : List ℕ → ℕ → List ℕ → Type 0
StandsAt bytes place part = take (length part) (drop place bytes) ≡ part
