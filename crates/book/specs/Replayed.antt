-- A list of calls, replayed on a book: answers and book are those of the rule book's run.
use Rattle.std.specs.Prelude.{◌≡◌, List}
use Rattle.rules.specs.Runs.{Run, run}
use Rattle.book.specs.Running.{Running}
use Rattle.book.specs.declared.call.Call.{Call}
use Rattle.book.specs.declared.call.Answer.{Answer}
use Rattle.book.specs.Told.{calls_of, answers_of}

-- answers and book, as a run of the rule book has them
abbrev pub run_of : List Answer → Running → Run
run_of answers state = record { answers = answers_of answers; book = state.book }

pub record Followed (before later : Running) (calls : List Call) (answers : List Answer) : Type 0 where
  pub ran : run_of answers later ≡ run before.room (calls_of calls) before.book
  pub room : later.room ≡ before.room
