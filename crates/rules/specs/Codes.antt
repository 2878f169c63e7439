-- The numbers that stand for words: of refusals, of answers, of classes.
use Rattle.std.specs.Prelude.{ℕ, List, [], ◌∷◌}
use Rattle.rules.specs.declared.refusal.Refusal.{Refusal}
use Rattle.rules.specs.declared.refusal.Refusal.TheVariants as refusal
use Rattle.rules.specs.declared.priority.Class.{Class}
use Rattle.rules.specs.declared.priority.Class.TheVariants.{Displayed, Hidden, Midpoint, Away}
use Rattle.rules.specs.Answers.{Answer, entered, cancelled, quoted, ticked, refused}

abbrev pub refusal_number : Refusal → ℕ
refusal_number refusal.Identifier = 7
refusal_number refusal.Time = 8
refusal_number refusal.TapeShort = 9
refusal_number refusal.NameTaken = 10
refusal_number refusal.BookFull = 11
refusal_number refusal.EntriesSpent = 12
refusal_number refusal.NoSuchOrder = 13

-- an answer in numbers: 0 where the call is carried out, else the refusal's number; then the values in their order
pub record Told : Type 0 where
  pub number : ℕ
  pub values : List ℕ

abbrev pub told : Answer → Told
told (entered number traded lapsed) = record { number = 0; values = number ∷ (traded ∷ (lapsed ∷ [])) }
told (cancelled left) = record { number = 0; values = left ∷ [] }
told quoted = record { number = 0; values = [] }
told ticked = record { number = 0; values = [] }
told (refused why) = record { number = refusal_number why; values = [] }

abbrev pub class_number : Class → ℕ
class_number Displayed = 1
class_number Hidden = 2
class_number Midpoint = 3
class_number Away = 4
