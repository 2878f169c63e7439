-- What the calls that look up or change single rows say of the rows.
use Rattle.std.specs.Prelude.{◌≡◌, ℕ, ◌<◌, true, false, List, [], ◌∷◌, ◌++◌, map, length, get_or, take, Some, ◌≢◌, slice_index_or}
use Rattle.rules.specs.Market.{resting}
use Rattle.terms.specs.declared.identifier.Identifier.{Identifier}
use Rattle.market.specs.declared.table.Row.{Row}
use Rattle.market.specs.Rows.{row_order, rests, orders_in}

-- the order with that entry number rests, and its row stands at the index
pub record RestsAt (rows : List Row) (entry index : ℕ) : Type 0 where
  pub within : index < length rows
  pub number : (any : Row) → (get_or rows index any).number ≡ entry
  pub rests : (any : Row) → rests (slice_index_or rows index any) ≡ true
  pub order : (any : Row) → resting entry (orders_in rows) ≡ Some (row_order (slice_index_or rows index any))

-- the row with other shares left
abbrev pub with_left : ℕ → Row → Row
with_left shares row = record row { left = shares }

-- the rows are the same, but for the shares left of them
abbrev pub SameButShares : List Row → List Row → Type 0
SameButShares before after = map (with_left 0) after ≡ map (with_left 0) before

-- only the shares left of the row with that entry number may differ
pub record OnlySharesOf (entry : ℕ) (before after : List Row) : Type 0 where
  pub count : length after ≡ length before
  pub same : SameButShares before after
  pub others : (index : ℕ) (any : Row) → ((get_or before index any).number ≢ entry) → slice_index_or after index any ≡ slice_index_or before index any

-- the entry number of the last row, which is the highest; `low` where there is none
abbrev pub newest_number : ℕ → List Row → ℕ
newest_number low [] = low
newest_number low (row ∷ rows) = newest_number row.number rows

-- every row rests, so that the rows are the orders
pub record AllRest (rows : List Row) : Type 0 where
  pub orders : map row_order rows ≡ orders_in rows
  pub count : length rows ≡ length (orders_in rows)

-- the row at the index is the first that rests no more
pub record FirstSpent (rows : List Row) (index : ℕ) : Type 0 where
  pub within : index < length rows
  pub spent : (any : Row) → rests (slice_index_or rows index any) ≡ false
  pub first : AllRest (take index rows)

-- of the rows before, the first that rests no more is dropped, and its identifier told
pub record Retired (before after : List Row) (identifier : Identifier) : Type 0 where
  pub earlier : List Row
  pub row : Row
  pub later : List Row
  pub was : before ≡ earlier ++ (row ∷ later)
  pub is : after ≡ earlier ++ later
  pub spent : rests row ≡ false
  pub first : AllRest earlier
  pub told : identifier ≡ row.identifier
