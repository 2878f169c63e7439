use Rattle.std.proofs.Common.{vec_items}
use Rattle.book.proofs.Named.{has_pairs}
use Rattle.book.proofs.book.Book.close.Goals as goal

pub returns-clause-figures : goal.returns-clause-figures
returns-clause-figures g c = rw (← c.self.view_is) (c.figures_of.ensures (g.T.Tape.lines c.self.inside.engine.market.tape))

pub returns-clause-names : goal.returns-clause-names
returns-clause-names g c =
    let engine = c.self.inside.engine in
    let sound = c.self.invariant in
    rw (← c.self.view_is)
    (has_pairs (g.D.Directory.number engine.directory) (g.D.Directory.count engine.directory) (vec_items engine.market.table.rows) sound.tied sound.rests)
