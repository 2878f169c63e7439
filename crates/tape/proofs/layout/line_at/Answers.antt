use Rattle.std.proofs.Common.{◌+◌, ◌∙◌, rules}
use Rattle.tape.specs.Layout.{line_at}
use Rattle.tape.proofs.Spelling.{line_eq, eight_read, four_read}
use Rattle.tape.proofs.layout.line_at.Goals as goal

pub returns : goal.returns
unfolding line_at
returns c =
    let xs = c.args.bytes.now in
    let at = c.args.at in
    line_eq _ _ _ _ _ _ _ _ _ _ _ _
    (c.from_be_bytes.ensures ∙ eight_read xs _ (at + 3) c.bytes_at.ensures)
    (c.from_be_bytes-2.ensures ∙ four_read xs _ (at + 14) c.bytes_at-2.ensures)
    (c.from_be_bytes-3.ensures ∙ four_read xs _ (at + 21) c.bytes_at-3.ensures)
    (c.from_be_bytes-4.ensures ∙ four_read xs _ (at + 28) c.bytes_at-4.ensures)
    (c.from_be_bytes-5.ensures ∙ four_read xs _ (at + 35) c.bytes_at-5.ensures)
    (search rules)
