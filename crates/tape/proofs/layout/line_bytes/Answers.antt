use Rattle.std.proofs.Common.{replicate, ◌∙◌, append-nil}
use Rattle.tape.specs.Layout.{line_bytes}
use Rattle.tape.proofs.Rows.{pasted_is}
use Rattle.tape.proofs.layout.line_bytes.Goals as goal

pub returns : goal.returns
returns c = c.put_line.ensures ∙ pasted_is (replicate 43 0) 0 c.args.line ∙ append-nil (line_bytes c.args.line)
