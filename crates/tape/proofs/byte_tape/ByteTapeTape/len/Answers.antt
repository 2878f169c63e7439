use Rattle.std.proofs.Common.{◌*◌, sym}
use Rattle.std.proofs.lemmas.List.FromFn.{length-map-range_with_len}
use Rattle.tape.specs.Layout.{line_at}
use Rattle.tape.proofs.byte_tape.ByteTapeTape.len.Goals as goal

pub returns : goal.returns
returns c =
    let self = c.args.self.now in
    sym (length-map-range_with_len (λ i. line_at self.bytes.now (i * 43)) 0 self.used)
