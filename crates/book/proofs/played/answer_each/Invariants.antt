use Rattle.std.proofs.Common.{◌≡◌, ◌≤◌, length, take, vec_items, vec_len, vec_capacity}
use Rattle.book.specs.Replayed.{Followed}
use Rattle.book.proofs.played.answer_each.Given as goal

abbrev pub invariant-loop-call : goal.invariant-loop-call
invariant-loop-call g l =
    (vec_len l.answers ≡ l.call-index)
    × (length l.calls ≤ vec_capacity l.answers)
    × Followed l.initial.book l.book (take l.call-index l.calls) (vec_items l.answers)
