-- What a call answers.
use Rattle.std.specs.Prelude.{ℕ}
use Rattle.rules.specs.declared.refusal.Refusal.{Refusal}

-- entered: entry number, shares traded, shares lapsed; cancelled: the shares that were left
pub data Answer : Type 0 where
  entered : ℕ → ℕ → ℕ → Answer
  cancelled : ℕ → Answer
  quoted : Answer
  ticked : Answer
  refused : Refusal → Answer
