-- Two lists of calls, each on a new book of its own.
use Rattle.std.specs.Prelude.{◌≡◌, ℕ, ◌≤◌, List, [], length, vec_items, vec_capacity, ◌≢◌}
use Rattle.tape.specs.declared.tape.Tape.{Ghosts as TapeOf}
use Rattle.directory.specs.declared.directory.Directory.{Ghosts as DirectoryOf}
use Rattle.terms.specs.declared.quote.Quote.{Quote}
use Rattle.rules.specs.Runs.{opened, run}
use Rattle.book.specs.declared.refusal.OpenRefusal.{OpenRefusal}
use Rattle.book.specs.declared.refusal.OpenRefusal.TheVariants.{TapeUsed, NoMemory}
use Rattle.book.specs.Preparing.{PreparedOn}
use Rattle.book.specs.declared.call.Call.{Call}
use Rattle.book.specs.declared.played.Played.{Played}
use Rattle.book.specs.declared.both_runs.NotRerun.{NotRerun}
use Rattle.book.specs.declared.played.Stage.{Stage}
use Rattle.book.specs.Told.{calls_of}
use Rattle.book.specs.Replayed.{run_of}

-- a new book, at a quote and on an empty tape, has played the calls
pub record PlayedThrough {D T : Type 0} (tape_make : TapeOf T) (bid offer : ℕ) (tape : T) (calls : List Call) (played : Played D T) : Type 0 where
  pub empty : tape_make.lines tape ≡ []
  pub ran : run_of (vec_items played.answers) played.book ≡ run (tape_make.free tape) (calls_of calls) (opened bid offer)
  pub room : played.book.room ≡ tape_make.free tape

-- a used tape is told only where one of the two tapes is used; memory is asked for once the first is known to be empty
abbrev pub BecauseEither : {T U : Type 0} → TapeOf T → T → TapeOf U → U → OpenRefusal → Type 0
BecauseEither tape_make tape other_make other TapeUsed = tape_make.lines tape ≡ [] → other_make.lines other ≢ []
BecauseEither tape_make tape other_make other NoMemory = tape_make.lines tape ≡ []

-- the book can be opened on these, and there is room for an answer to each call
pub record StagedFor {D T : Type 0} {directory_make : DirectoryOf D} {tape_make : TapeOf T} (quote : Quote) (directory : D) (tape : T) (calls : List Call) (stage : Stage D T directory_make tape_make) : Type 0 where
  pub book : PreparedOn quote directory tape stage.book
  pub none : vec_items stage.answers ≡ []
  pub room : length calls ≤ vec_capacity stage.answers

-- nothing was played, and both directories and tapes come back as they were
pub record AllHandedBack {D T E U : Type 0} (tape_make : TapeOf T) (other_make : TapeOf U) (directory : D) (tape : T) (other_directory : E) (other_tape : U) (refused : NotRerun D T E U) : Type 0 where
  pub same_directory : refused.directory ≡ directory
  pub same_tape : refused.tape ≡ tape
  pub same_other_directory : refused.other_directory ≡ other_directory
  pub same_other_tape : refused.other_tape ≡ other_tape
  pub why : BecauseEither tape_make tape other_make other_tape refused.why
