-- An entry, step by step: the tests once the clock is at its time, and what comes of the new order's row.
use Rattle.std.specs.Prelude.{◌≡◌, ℕ, ◌+◌, ◌<◌, ◌≤◌, Bool, true, false, List, is_some, None, Ok, Err, Result, nat_le}
use Rattle.terms.specs.Terms.{OrderTerms}
use Rattle.directory.specs.Pairs.{most_pairs}
use Rattle.tape.specs.declared.tape.Tape.{Ghosts as TapeOf}
use Rattle.directory.specs.declared.directory.Directory.{Ghosts as DirectoryOf}
use Rattle.rules.specs.declared.refusal.Refusal.{Refusal}
use Rattle.rules.specs.declared.refusal.Refusal.TheVariants.{NameTaken, BookFull, EntriesSpent}
use Rattle.rules.specs.Limits.{most_entries, last_moment}
use Rattle.rules.specs.Market.{Book}
use Rattle.rules.specs.Answers.{entered}
use Rattle.rules.specs.Calls.{Outcome, named, no_place, swept_in}
use Rattle.market.specs.declared.table.Row.{Row}
use Rattle.market.specs.Rows.{row_order}
use Rattle.market.specs.Changes.{AllRest}
use Rattle.market.specs.Joining.{CanJoin}
use Rattle.market.specs.Markets.{market_of, HasRoom}
use Rattle.market.specs.Seen.{rows_of}
use Rattle.book.specs.declared.engine.Engine.{Engine}
use Rattle.book.specs.Tied.{row_name}
use Rattle.book.specs.Running.{BookTied}
use Rattle.book.specs.Carried.{Tidied}

-- the entry number n, unless the name is taken, the book is full or the entries are spent
abbrev pub numbered_unless : Bool → Bool → Bool → ℕ → Result ℕ Refusal
numbered_unless true full spent number = Err NameTaken
numbered_unless false true spent number = Err BookFull
numbered_unless false false true number = Err EntriesSpent
numbered_unless false false false number = Ok number

-- the entry number that the order gets, or why it is refused, once the clock is at its time
abbrev pub entry_test : List ℕ → OrderTerms → Book → Result ℕ Refusal
entry_test id terms book =
    numbered_unless (is_some (named id book.market.orders)) (no_place terms book.market) (nat_le most_entries book.entries) (book.entries + 1)

-- the book is ready for the new row
pub record Ready {D T : Type 0} (directory_make : DirectoryOf D) (tape_make : TapeOf T) (engine : Engine D T) (time : ℕ) (row : Row) : Type 0 where
  pub day : time ≤ last_moment
  pub tied : BookTied directory_make engine
  pub rests : AllRest (rows_of engine.market.table)
  pub joins : CanJoin (rows_of engine.market.table) row
  pub lines : HasRoom tape_make engine.market (swept_in time (row_order row) (market_of tape_make engine.market))

-- the directory takes the new row's pair
pub record HasPlace {D T : Type 0} (directory_make : DirectoryOf D) (engine : Engine D T) (row : Row) : Type 0 where
  pub fresh : directory_make.number engine.directory (row_name row) ≡ None
  pub free : directory_make.count engine.directory < most_pairs

-- the order is entered: entry number, shares traded, shares lapsed, and the market as the rule book leaves it
pub record Entered {D T : Type 0} (directory_make : DirectoryOf D) (tape_make : TapeOf T) (before after : Engine D T) (outcome : Outcome) (entry : ℕ × ℕ × ℕ) : Type 0 where
  pub answer : entered entry.0 entry.1 entry.2 ≡ outcome.answer
  pub market : market_of tape_make after.market ≡ outcome.book.market
  pub tidied : Tidied directory_make tape_make before after
  pub clock : after.clock ≡ before.clock
  pub entries : after.entries ≡ before.entries
