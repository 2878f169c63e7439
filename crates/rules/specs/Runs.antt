-- Whole runs: any calls in any order, on a new book with an empty tape.
use Rattle.std.specs.Prelude.{ℕ, ◌-◌, List, [], ◌∷◌, length, None}
use Rattle.rules.specs.Market.{Book}
use Rattle.rules.specs.Answers.{Answer}
use Rattle.rules.specs.Calls.{Call, Outcome, call}

-- a new book: nothing rests, no period runs, the clock is 0
abbrev pub opened : ℕ → ℕ → Book
opened bid offer =
    record {
      market = record { orders = []; bid = bid; offer = offer; buy_end = None; sell_end = None; tape = [] };
      clock = 0;
      entries = 0;
    }

pub record Run : Type 0 where
  pub answers : List Answer
  pub book : Book

-- the answers, in the calls' order, and the book at the end; the tape has room for so many lines in all
unfoldable pub run : ℕ → List Call → Book → Run
run room [] book = record { answers = []; book = book }
run room (next ∷ later) book =
    let outcome : Outcome = call (room - length book.market.tape) next book in
    let rest : Run = run room later outcome.book in
    record { answers = outcome.answer ∷ rest.answers; book = rest.book }
