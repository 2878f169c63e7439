-- The order table with its tape, as the rule book's market. `make` tells the lines and the free lines of a tape of its make.
use Rattle.std.specs.Prelude.{◌≡◌, ℕ, ◌+◌, ◌≤◌, length}
use Rattle.tape.specs.declared.tape.Tape.{Ghosts as TapeOf}
use Rattle.rules.specs.Limits.{last_moment}
use Rattle.rules.specs.Market.{Market}
use Rattle.market.specs.Changes.{SameButShares}
use Rattle.market.specs.Seen.{market_with, rows_of}
use Rattle.market.specs.declared.market.Market.{Market as TableAndTape}

abbrev pub market_of : {T : Type 0} → TapeOf T → TableAndTape T → Market
market_of make market = market_with (make.lines market.tape) market.table

-- how many lines the tape holds and has room for, together
abbrev pub capacity_of : {T : Type 0} → TapeOf T → TableAndTape T → ℕ
capacity_of make market = length (make.lines market.tape) + make.free market.tape

-- the lines of a market that the rule book makes of this one find room on its tape
abbrev pub HasRoom : {T : Type 0} → TapeOf T → TableAndTape T → Market → Type 0
HasRoom make market after = length after.tape ≤ capacity_of make market

-- the time is within the day, and the lines of what the rule book makes of the market find room
-- (the time is any number, since a type of times of the day would ask more of whoever calls)
pub record CanFollow {T : Type 0} (make : TapeOf T) (market : TableAndTape T) (time : ℕ) (rule : Market → Market) : Type 0 where
  pub day : time ≤ last_moment
  pub room : HasRoom make market (rule (market_of make market))

-- what the rule book makes of the market has become of it; the tape has room for as many lines as before, and the rows are the
-- same but for their shares
pub record Follows {T : Type 0} (make : TapeOf T) (old new : TableAndTape T) (rule : Market → Market) : Type 0 where
  pub market : market_of make new ≡ rule (market_of make old)
  pub capacity : capacity_of make new ≡ capacity_of make old
  pub rows : SameButShares (rows_of old.table) (rows_of new.table)
