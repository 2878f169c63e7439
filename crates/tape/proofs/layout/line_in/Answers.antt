use Rattle.std.proofs.Common.{◌≡◌, ℕ, ◌+◌, ◌-◌, ◌*◌, ◌<◌, List, None, Option, sym, ap, ◌∙◌, arith}
use Rattle.std.specs.List.{AllByRecursion}
use Rattle.roll.specs.Rolls.{at_place}
use Rattle.tape.specs.declared.line.Line.{Line}
use Rattle.tape.specs.Layout.{line_in, tape_bytes, InWidth}
use Rattle.tape.proofs.Rows.{row_reads_back, row_past, row_at}
use Rattle.tape.proofs.layout.line_in.Goals as goal
use Rattle.tape.proofs.layout.line_in.Goals.{then-place-eq0-via-then-place-eq0, then-place-eq0-via-else-place-eq0+then-place-bytes}

-- what is told of the bytes is, of a row of lines, the line itself
back : (xs : List ℕ) (place : ℕ) (r : Option Line) → r ≡ line_in xs place → (ls : List Line) → AllByRecursion InWidth ls → xs ≡ tape_bytes ls → r ≡ at_place ls place
back xs place r told ls widths is = told ∙ ap (λ ys. line_in ys place) is ∙ row_reads_back ls place widths

pub returns-then-place-eq0 : goal.returns-then-place-eq0
returns-then-place-eq0 c =
    let xs = c.args.bytes.now in
    let none : None ≡ line_in xs c.args.place =
    elim c.then-place-eq0.branch [
      | then-place-eq0-via-then-place-eq0 w ↦ ap (line_in xs) (sym w.if-place-eq0.true)
      | then-place-eq0-via-else-place-eq0+then-place-bytes w ↦ sym (row_past xs c.args.place (omega arith))
    ] in
    record { told = none; reads_back_what_was_written = back xs c.args.place None none }

pub returns-clause-reads_back_what_was_written : goal.returns-clause-reads_back_what_was_written
returns-clause-reads_back_what_was_written c =
    let xs = c.args.bytes.now in
    let place = c.args.place in
    let pos : 0 < place = omega arith in
    let here = c.read_line.ensures ∙ row_at xs place ((place - 1) * 43) ((place - 1) * 43 + 43 - (place - 1) * 43) pos (omega arith) (omega arith) in
    back xs place c.read_line.result here
