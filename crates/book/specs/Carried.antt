-- What a call promises: its answer and the book after it are the rule book's, and the book is sound again.
use Rattle.std.specs.Prelude.{◌≡◌, ℕ, ◌≤◌, true, ◌&&◌, List, [], ◌∷◌, length, Ok, Err, Result, if◌then◌else◌, nat_le}
use Rattle.tape.specs.declared.tape.Tape.{Ghosts as TapeOf}
use Rattle.directory.specs.declared.directory.Directory.{Ghosts as DirectoryOf}
use Rattle.rules.specs.declared.refusal.Refusal.{Refusal}
use Rattle.rules.specs.declared.refusal.Refusal.TheVariants.{Time, TapeShort}
use Rattle.rules.specs.Limits.{last_moment}
use Rattle.rules.specs.Market.{Book}
use Rattle.rules.specs.Answers.{Answer, entered, cancelled, quoted, ticked, refused}
use Rattle.rules.specs.Codes.{refusal_number, Told}
use Rattle.rules.specs.Calls.{Call, Outcome, call, done_at, time_of, names_lawfully}
use Rattle.market.specs.Changes.{AllRest}
use Rattle.market.specs.Markets.{capacity_of, HasRoom}
use Rattle.market.specs.Seen.{rows_of}
use Rattle.book.specs.declared.engine.Engine.{Engine}
use Rattle.book.specs.declared.refusal.Rejected.{Rejected}
use Rattle.book.specs.Running.{book_of, BookTied, Sound}

-- what the rule book makes of a call, with the lines that are free on the tape
abbrev pub outcome_of : {D T : Type 0} → TapeOf T → Engine D T → Call → Outcome
outcome_of tape_make engine made = call (tape_make.free engine.market.tape) made (book_of tape_make engine)

pub record Carried {D T : Type 0} (directory_make : DirectoryOf D) (tape_make : TapeOf T) (before after : Engine D T) (made : Call) (told : Answer) : Type 0 where
  pub answer : told ≡ (outcome_of tape_make before made).answer
  pub book : book_of tape_make after ≡ (outcome_of tape_make before made).book
  pub sound : Sound directory_make tape_make after
  pub capacity : capacity_of tape_make after.market ≡ capacity_of tape_make before.market

-- the two refusals that every call may have, before the clock moves
abbrev pub time_and_tape : ℕ → ℕ → Book → Result (Unit {0}) Refusal
time_and_tape free time book =
    if nat_le book.clock time && nat_le time last_moment
    then (if nat_le (length book.market.orders) free then Ok tt else Err TapeShort)
    else Err Time

-- a step of a call: the directory is still tied to the rows, every row rests, and the book has the places on its tape that it had
pub record Tidied {D T : Type 0} (directory_make : DirectoryOf D) (tape_make : TapeOf T) (before after : Engine D T) : Type 0 where
  pub tied : BookTied directory_make before → BookTied directory_make after
  pub rests : AllRest (rows_of after.market.table)
  pub capacity : capacity_of tape_make after.market ≡ capacity_of tape_make before.market

-- the clock has come to a call's time: what is left to do is what the rule book does from there, and its lines find room
pub record Brought {D T : Type 0} (directory_make : DirectoryOf D) (tape_make : TapeOf T) (before after : Engine D T) (time : ℕ) : Type 0 where
  pub day : time ≤ last_moment
  pub clock : after.clock ≡ time
  pub done : (made : Call) → time_of made ≡ time → names_lawfully made ≡ true → outcome_of tape_make before made ≡ done_at made (book_of tape_make after)
  pub lines : (made : Call) → time_of made ≡ time → names_lawfully made ≡ true → HasRoom tape_make after.market (done_at made (book_of tape_make after)).book.market
  pub tied : BookTied directory_make after
  pub rests : AllRest (rows_of after.market.table)
  pub capacity : capacity_of tape_make after.market ≡ capacity_of tape_make before.market

-- the start of every call at a time: it is refused, or the clock comes to the time
abbrev pub Begun : {D T : Type 0} → DirectoryOf D → TapeOf T → Engine D T → Engine D T → ℕ → Result (Unit {0}) Refusal → Type 0
Begun directory_make tape_make before after time (Ok unit) = Brought directory_make tape_make before after time
Begun directory_make tape_make before after time (Err why) = (made : Call) → time_of made ≡ time → names_lawfully made ≡ true → Carried directory_make tape_make before after made (refused why)

abbrev pub entry_answer : Result (ℕ × ℕ × ℕ) Refusal → Answer
entry_answer (Ok entry) = entered entry.0 entry.1 entry.2
entry_answer (Err why) = refused why

-- the same, where a refusal hands the ticket back
abbrev pub entry_told : Result (ℕ × ℕ × ℕ) Rejected → Answer
entry_told (Ok entry) = entered entry.0 entry.1 entry.2
entry_told (Err rejected) = refused rejected.why

abbrev pub tick_answer : Result (Unit {0}) Refusal → Answer
tick_answer (Ok unit) = ticked
tick_answer (Err why) = refused why

abbrev pub quote_answer : Result (Unit {0}) Refusal → Answer
quote_answer (Ok unit) = quoted
quote_answer (Err why) = refused why

abbrev pub cancel_answer : Result ℕ Refusal → Answer
cancel_answer (Ok left) = cancelled left
cancel_answer (Err why) = refused why

-- A result in numbers: 0 and the values of what was done, or the refusal's number and no values.

abbrev pub done_with : List ℕ → Told
done_with values = record { number = 0; values = values }

abbrev pub refused_with : Refusal → Told
refused_with why = record { number = refusal_number why; values = [] }

-- entry number, shares traded, shares lapsed
abbrev pub entry_numbers : Result (ℕ × ℕ × ℕ) Rejected → Told
entry_numbers (Ok entry) = done_with (entry.0 ∷ (entry.1 ∷ (entry.2 ∷ [])))
entry_numbers (Err rejected) = refused_with rejected.why

-- the shares that were left
abbrev pub cancel_numbers : Result ℕ Refusal → Told
cancel_numbers (Ok left) = done_with (left ∷ [])
cancel_numbers (Err why) = refused_with why

-- a quote's and a tick's
abbrev pub plain_numbers : Result (Unit {0}) Refusal → Told
plain_numbers (Ok unit) = done_with []
plain_numbers (Err why) = refused_with why
