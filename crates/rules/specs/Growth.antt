-- The tape only grows.
use Rattle.std.specs.Prelude.{◌≡◌, ℕ, ◌≤◌, List, ◌++◌, length}
use Rattle.tape.specs.declared.line.Line.{Line}
use Rattle.rules.specs.Market.{Book}
use Rattle.rules.specs.Calls.{Call, call}
use Rattle.rules.specs.Runs.{opened, run}

-- the lines that stood on the tape stand there as they were, before those written since; no more are written than orders rested
pub record TapeGrows (before after : Book) : Type 0 where
  pub written : List Line
  pub tape : after.market.tape ≡ before.market.tape ++ written
  pub few : length written ≤ length before.market.orders

-- so it is after every run, whichever call comes next
abbrev pub TapeOnlyGrows : Type 0
TapeOnlyGrows =
    (bid offer room free : ℕ) (calls : List Call) (next : Call)
    → let book : Book = (run room calls (opened bid offer)).book in
    TapeGrows book (call free next book).book
