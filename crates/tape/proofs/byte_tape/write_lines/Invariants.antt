use Rattle.std.proofs.Common.{◌≡◌, ◌*◌, ◌++◌, take, drop}
use Rattle.tape.specs.Layout.{tape_bytes}
use Rattle.tape.proofs.byte_tape.write_lines.Given as goal

abbrev pub invariant-loop-line : goal.invariant-loop-line
invariant-loop-line l =
    (l.tape.used ≡ l.line-index)
    × (l.tape.bytes.ghost_name ≡ l.initial.tape.bytes.ghost_name)
    × (l.tape.bytes.now ≡ tape_bytes (take l.line-index l.line-items) ++ drop (l.line-index * 43) l.initial.tape.bytes.now)
