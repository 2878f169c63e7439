-- What ties a directory to the rows: it has the pairs of identifier and entry number of the rows, and no others.
use Rattle.std.specs.Prelude.{◌≡◌, ℕ, List, [], ◌∷◌, length, Some, None, Option, if◌then◌else◌}
use Rattle.std.specs.Str.{bytes_eq}
use Rattle.market.specs.declared.table.Row.{Row}
use Rattle.market.specs.Rows.{identifier_bytes}

abbrev pub row_name : Row → List ℕ
row_name row = identifier_bytes row.identifier

-- the entry number of the row that an identifier names
unfoldable pub number_named : List ℕ → List Row → Option ℕ
number_named id [] = None
number_named id (row ∷ rows) = if bytes_eq id (row_name row) then Some row.number else number_named id rows

-- no two rows have one identifier
abbrev pub Apart : List Row → Type 0
Apart [] = Unit {0}
Apart (row ∷ rows) = (number_named (row_name row) rows ≡ None) × Apart rows

-- `number` and `count` are what the directory means
pub record Tied (number : List ℕ → Option ℕ) (count : ℕ) (rows : List Row) : Type 0 where
  pub known : (id : List ℕ) → number id ≡ number_named id rows
  pub apart : Apart rows
  pub counted : count ≡ length rows
