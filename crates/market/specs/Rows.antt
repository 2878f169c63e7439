-- Rows of the order table, as the rule book's orders.
use Rattle.std.specs.Prelude.{ℕ, ◌+◌, Bool, true, ◌&&◌, List, [], ◌∷◌, nat_lt, if◌then◌else◌}
use Rattle.terms.specs.Made.{terms_of}
use Rattle.rules.specs.Limits.{most_resting}
use Rattle.rules.specs.Market.{Order}
pub use Rattle.terms.specs.Naming.{identifier_bytes}
use Rattle.market.specs.declared.table.Row.{Row}

-- so many rows stand at most: those that rest, and one that is being entered
abbrev pub most_rows : ℕ
most_rows = most_resting + 1

abbrev pub row_order : Row → Order
row_order row =
    record { identifier = identifier_bytes row.identifier; number = row.number; terms = terms_of row.terms; left = row.left }

-- entry numbers ascend, and the first is above `low`
abbrev pub rising : ℕ → List Row → Bool
rising low [] = true
rising low (row ∷ rows) = nat_lt low row.number && rising row.number rows

-- a row with no shares left rests no more
abbrev pub rests : Row → Bool
rests row = nat_lt 0 row.left

-- the orders that rest, in the rows' order
unfoldable pub orders_in : List Row → List Order
orders_in [] = []
orders_in (row ∷ rows) = if rests row then row_order row ∷ orders_in rows else orders_in rows
