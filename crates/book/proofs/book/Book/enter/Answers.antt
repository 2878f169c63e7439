use Rattle.book.proofs.Runs.{grows}
use Rattle.book.proofs.book.Book.enter.Goals as goal

pub returns-clause-grows : goal.returns-clause-grows
returns-clause-grows g c = grows _ _ _ _ _ _ _ c.self.view_is c.self.invariant c.enter_terms-entered.ensures
