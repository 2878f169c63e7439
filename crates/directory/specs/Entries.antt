-- Pairs as the makes keep them.
use Rattle.std.specs.Prelude.{◌≡◌, ℕ, ◌<◌, Bool, List, length, map, slice_index_or}
use Rattle.terms.specs.Naming.{identifier_bytes}
use Rattle.directory.specs.declared.entry.Entry.{Entry}
use Rattle.directory.specs.Pairs.{Numbers, Pair, apart, number_among}

abbrev pub entry_id : Entry → List ℕ
entry_id e = identifier_bytes e.id

abbrev pub pairs_in : List Entry → List Pair
pairs_in es = map (λ e. (entry_id e, e.number)) es

abbrev pub number_in : List Entry → Numbers
number_in es = number_among (pairs_in es)

-- no identifier stands twice
abbrev pub distinct : List Entry → Bool
distinct es = apart (pairs_in es)

-- a pair with that identifier stands at i
pub record Stands (es : List Entry) (k : List ℕ) (i : ℕ) : Type 0 where
  pub within : i < length es
  pub same : (d : Entry) → entry_id (slice_index_or es i d) ≡ k
