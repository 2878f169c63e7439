use Rattle.std.proofs.lemmas.Result.{err_from_is_err_and}
use Rattle.book.proofs.Calling.{begun_refused, begun, can_settle}
use Rattle.book.proofs.engine.Engine.advance.Goals as goal

pub returns-in_err-check : goal.returns-in_err-check
returns-in_err-check g c =
    let p = err_from_is_err_and c.from_residual.result c.from_residual.ensures.1 in
    rw (p.1, p.2) (begun_refused g.D.Directory g.T.Tape c.args.self.now c.args.time c.in_err-check.field-0.0 c.in_err-check.ensures c.requires)

pub bring_to-requires : goal.bring_to-requires
bring_to-requires g c =
    record {
      follows = can_settle g.D.Directory g.T.Tape c.args.self.now c.args.time c.in_ok-check.ensures c.requires;
      rests = c.requires.rests;
    }

pub returns : goal.returns
returns g c =
    begun g.D.Directory g.T.Tape c.args.self.now c.bring_to.new.self c.args.time c.in_ok-check.ensures c.requires
    c.bring_to.ensures.book
    c.bring_to.ensures.tidied
