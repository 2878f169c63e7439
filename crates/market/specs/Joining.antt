-- When a row can join the table.
use Rattle.std.specs.Prelude.{◌<◌, List, length}
use Rattle.market.specs.declared.table.Row.{Row}
use Rattle.market.specs.Changes.{newest_number}
use Rattle.market.specs.Rows.{most_rows}

-- the row can join the table: a row is free, its entry number is above all others, and it has shares left
pub record CanJoin (rows : List Row) (row : Row) : Type 0 where
  pub free : length rows < most_rows
  pub newest : newest_number 0 rows < row.number
  pub some : 0 < row.left
