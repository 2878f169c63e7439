use Rattle.book.proofs.Opened.{new_sound}
use Rattle.book.proofs.prepared.Prepared.open.Goals as goal

pub invariant_of-result : goal.invariant_of-result
invariant_of-result g c =
    let p = c.args.self in
    new_sound g.D.Directory g.T.Tape c.clear.new.self p.tape p.table p.table.quote.bid p.table.quote.offer p.unused p.fresh c.clear.ensures p.no_rows
