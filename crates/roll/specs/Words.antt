-- What people read where a record finds no place.
use Rattle.std.specs.Prelude.{ℕ, List, codes}

abbrev pub full_words : List ℕ
full_words = codes "no free place on the roll"
