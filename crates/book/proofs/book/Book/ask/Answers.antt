use Rattle.book.proofs.book.Book.ask.Goals as goal

pub returns : goal.returns
returns g c = rw (← c.self.view_is) (c.ask.ensures (g.T.Tape.lines c.self.inside.engine.market.tape))
