use Rattle.std.proofs.lemmas.Result.{err_from_is_err_and}
use Rattle.book.proofs.Opened.{empty_tape}
use Rattle.book.proofs.prepared.table_for.Goals as goal

pub returns-in_err-open : goal.returns-in_err-open
returns-in_err-open g c =
    let p = err_from_is_err_and c.from_residual.result c.from_residual.ensures.1 in
    rw (p.1, p.2) (empty_tape (g.T.Tape.lines c.args.tape.now) c.len.result c.len.ensures c.if-len-gt0.false)

pub returns : goal.returns
returns g c =
    let table = c.in_ok-open.ensures in (
      empty_tape (g.T.Tape.lines c.args.tape.now) c.len.result c.len.ensures c.if-len-gt0.false,
      table.0,
      table.1,
      table.2,
    )
