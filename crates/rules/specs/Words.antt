-- What people read of a call that is refused.
use Rattle.std.specs.Prelude.{ℕ, List, codes}
use Rattle.rules.specs.declared.refusal.Refusal.{Refusal}
use Rattle.rules.specs.declared.refusal.Refusal.TheVariants as refusal

abbrev pub refusal_words : Refusal → List ℕ
refusal_words refusal.Identifier = codes "identifier not lawful"
refusal_words refusal.Time = codes "time not of the day, or before the clock"
refusal_words refusal.TapeShort = codes "too few free lines on the tape"
refusal_words refusal.NameTaken = codes "identifier already rests"
refusal_words refusal.BookFull = codes "book full"
refusal_words refusal.EntriesSpent = codes "entries spent"
refusal_words refusal.NoSuchOrder = codes "no such order"
