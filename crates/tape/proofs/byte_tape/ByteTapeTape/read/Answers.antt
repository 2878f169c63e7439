use Rattle.std.proofs.Common.{◌∙◌, Some, ap, arith}
use Rattle.tape.proofs.Rows.{lines_place, lines_past}
use Rattle.tape.proofs.byte_tape.ByteTapeTape.read.Goals as goal

pub returns-then-i-self : goal.returns-then-i-self
returns-then-i-self c =
    let self = c.args.self.now in
    lines_past self.bytes.now self.used c.args.place c.in_ok-i.i (omega arith) (omega arith)

pub returns : goal.returns
returns c =
    let self = c.args.self.now in
    ap Some c.line_at.ensures ∙ lines_place self.bytes.now self.used c.args.place c.in_ok-i.i (omega arith) (omega arith)
