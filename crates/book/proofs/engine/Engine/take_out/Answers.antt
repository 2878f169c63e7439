use Rattle.std.proofs.Common.{vec_items, ◌∙◌}
use Rattle.book.proofs.Kept.{tied_kept}
use Rattle.book.proofs.engine.Engine.take_out.Goals as goal

pub returns-clause-market : goal.returns-clause-market
returns-clause-market g c = c.tidy.ensures.market ∙ c.leave.ensures.market (g.T.Tape.lines c.args.self.now.market.tape)

pub returns-clause-tidied : goal.returns-clause-tidied
returns-clause-tidied g c =
    let d = g.D.Directory in
    let here = c.args.self.now in
    record {
      tied = λ tied.
          c.tidy.ensures.tidied.tied
          (tied_kept (d.number here.directory) (d.count here.directory) (vec_items here.market.table.rows) (vec_items c.leave.new.self.rows) c.leave.ensures.rows.same tied);
      rests = c.tidy.ensures.tidied.rests;
      capacity = c.tidy.ensures.tidied.capacity;
    }
