use Rattle.std.proofs.Common.{◌≡◌, ◌+◌, ◌≤◌, length}
use Rattle.register.specs.Readers.{register_of, rest_of}
use Rattle.book_register.proofs.SoFar.{SoFar}
use Rattle.book_register.proofs.load.load_register.Given as goal

-- the reader is at the rest of the register, and the load has come as far
abbrev pub invariant-loop-next : goal.invariant-loop-next
invariant-loop-next g l =
    (goal.iterator-loop-next g).can_next l.next-iterator
    × (goal.iterator-loop-next g).is_finite l.next-iterator
    × (register_of l.next-iterator ≡ l.register)
    × (l.loaded.entered + l.loaded.slips + length (rest_of l.next-iterator) ≤ length l.register)
    × SoFar l.initial.book l.initial.slips l.time l.register l.book l.slips (rest_of l.next-iterator) l.loaded.entered l.loaded.slips
