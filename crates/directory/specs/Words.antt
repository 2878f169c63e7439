-- What people read of a pair that is not put.
use Rattle.std.specs.Prelude.{ℕ, List, codes}
use Rattle.directory.specs.declared.directory.PutRefusal.{PutRefusal}
use Rattle.directory.specs.declared.directory.PutRefusal.TheVariants.{Unlawful, Held, Full}

abbrev pub put_refusal_words : PutRefusal → List ℕ
put_refusal_words Unlawful = codes "identifier not lawful"
put_refusal_words Held = codes "identifier already held"
put_refusal_words Full = codes "directory full"
