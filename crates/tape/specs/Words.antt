-- What people read where a line finds no place.
use Rattle.std.specs.Prelude.{ℕ, List, codes}

abbrev pub full_words : List ℕ
full_words = codes "no free line on the tape"
