-- What people read of a book that is not opened.
use Rattle.std.specs.Prelude.{ℕ, List, codes}
use Rattle.book.specs.declared.refusal.OpenRefusal.{OpenRefusal}
use Rattle.book.specs.declared.refusal.OpenRefusal.TheVariants.{TapeUsed, NoMemory}

abbrev pub open_refusal_words : OpenRefusal → List ℕ
open_refusal_words TapeUsed = codes "tape already has lines"
open_refusal_words NoMemory = codes "no memory"
