use Rattle.std.proofs.Common.{refl, sym, ◌∙◌, ◌/◌, ◌<◌, length, arith, rules}
use Rattle.tape.specs.Layout.{InWidth}
use Rattle.tape.proofs.Rows.{tape_within, tape_lines_more, tape_free_less, tape_row_more, row_pasted}
use Rattle.tape.proofs.byte_tape.ByteTapeTape.write.Goals as goal

pub invariant_of-self : goal.invariant_of-self
invariant_of-self c =
    let self = c.args.self.now in
    let room : self.used < length self.bytes.now / 43 = omega (arith, c.free_lines.ensures) in
    let w : InWidth c.args.line = search rules in
    record {
      within = tape_within self.bytes.now c.put_line.new.bytes self.used c.args.line room c.put_line.ensures;
      spelled_out = tape_row_more self.bytes.now c.put_line.new.bytes self.used c.args.line room c.put_line.ensures w self.spelled_out;
    }

pub returns-clause-lent : goal.returns-clause-lent
returns-clause-lent c =
    let self = c.args.self.now in
    (refl, c.put_line.ensures ∙ sym (row_pasted self.bytes.now self.used c.args.line))

pub returns-clause-line : goal.returns-clause-line
returns-clause-line c =
    let self = c.args.self.now in
    let room : self.used < length self.bytes.now / 43 = omega (arith, c.free_lines.ensures) in
    let w : InWidth c.args.line = search rules in (
      tape_lines_more self.bytes.now c.put_line.new.bytes self.used c.args.line room c.put_line.ensures w,
      tape_free_less self.bytes.now c.put_line.new.bytes self.used c.args.line room c.put_line.ensures,
    )
