-- A book as its callers see it: the rule book's book, and how many lines its tape has room for, written and free.
use Rattle.std.specs.Prelude.{◌≡◌, ℕ, ◌-◌, List, length}
use Rattle.rules.specs.Market.{Book}
use Rattle.rules.specs.Answers.{Answer}
use Rattle.rules.specs.Codes.{Told, told}
use Rattle.rules.specs.Calls.{Call, Outcome, call}
use Rattle.rules.specs.Runs.{opened, run}
use Rattle.tape.specs.declared.tape.Tape.{Ghosts as TapeOf}
use Rattle.directory.specs.declared.directory.Directory.{Ghosts as DirectoryOf}
use Rattle.market.specs.Changes.{AllRest}
use Rattle.market.specs.Markets.{capacity_of, market_of}
use Rattle.market.specs.Seen.{rows_of}
use Rattle.book.specs.declared.engine.Engine.{Engine}
use Rattle.book.specs.Tied.{Tied}

pub record Running : Type 0 where
  pub book : Book
  pub room : ℕ

-- what the rule book makes of a call, with the lines that are free on the tape
abbrev pub outcome : Running → Call → Outcome
outcome state made = call (state.room - length state.book.market.tape) made state.book

abbrev pub answer_to : Running → Call → Answer
answer_to state made = (outcome state made).answer

-- the number and the values that are told of it
abbrev pub told_of : Running → Call → Told
told_of state made = told (answer_to state made)

-- the book after the call
abbrev pub after : Running → Call → Running
after state made = record { book = (outcome state made).book; room = state.room }

-- an engine, as the rule book's book
abbrev pub book_of : {D T : Type 0} → TapeOf T → Engine D T → Book
book_of tape_make engine = record { market = market_of tape_make engine.market; clock = engine.clock; entries = engine.entries }

-- how an engine runs
abbrev pub running : {D T : Type 0} → TapeOf T → Engine D T → Running
running tape_make engine = record { book = book_of tape_make engine; room = capacity_of tape_make engine.market }

-- a new book, whose tape has room for so many lines
abbrev pub new_on : ℕ → ℕ → ℕ → Running
new_on room bid offer = record { book = opened bid offer; room = room }

-- the book is what some run of calls on a new book leaves
pub record Reached (state : Running) : Type 0 where
  pub bid : ℕ
  pub offer : ℕ
  pub calls : List Call
  pub is : state.book ≡ (run state.room calls (opened bid offer)).book

-- the directory has the pairs of the rows, and no others
abbrev pub BookTied : {D T : Type 0} → DirectoryOf D → Engine D T → Type 0
BookTied directory_make engine = Tied (directory_make.number engine.directory) (directory_make.count engine.directory) (rows_of engine.market.table)

-- between calls: the directory is tied to the rows, every row rests, and the book was reached by some run
pub record Sound {D T : Type 0} (directory_make : DirectoryOf D) (tape_make : TapeOf T) (engine : Engine D T) : Type 0 where
  pub tied : BookTied directory_make engine
  pub rests : AllRest (rows_of engine.market.table)
  pub reached : Reached (running tape_make engine)
