-- A new book, and why there is none.
use Rattle.std.specs.Prelude.{◌≡◌, []}
use Rattle.tape.specs.declared.tape.Tape.{Ghosts as TapeOf}
use Rattle.book.specs.declared.refusal.OpenRefusal.{OpenRefusal}
use Rattle.book.specs.declared.refusal.OpenRefusal.TheVariants.{TapeUsed, NoMemory}
use Rattle.book.specs.declared.refusal.NotOpened.{NotOpened}

-- a used tape is refused before memory is asked for
abbrev pub Because : {T : Type 0} → TapeOf T → T → OpenRefusal → Type 0
Because tape_make tape TapeUsed = tape_make.lines tape ≡ [] → ⊥
Because tape_make tape NoMemory = tape_make.lines tape ≡ []

pub record HandedBack {D T : Type 0} (tape_make : TapeOf T) (directory : D) (tape : T) (refused : NotOpened D T) : Type 0 where
  pub same_directory : refused.directory ≡ directory
  pub same_tape : refused.tape ≡ tape
  pub why : Because tape_make tape refused.why
