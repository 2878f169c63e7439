use Rattle.std.proofs.Common.{length, ◌≤◌}
use Rattle.bench_book.specs.Numbers.{MadeFirst}
use Rattle.bench_book.proofs.make_all.Given as goal

abbrev pub invariant-loop-index : goal.invariant-loop-index
invariant-loop-index g l =
    (length l.calls ≤ length l.answers) × MadeFirst l.index l.initial.book l.book l.calls l.answers
