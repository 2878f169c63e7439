use Rattle.std.proofs.Common.{vec_items}
use Rattle.book.proofs.Explains.{discretion_explained, uncrossed}
use Rattle.book.proofs.Named.{distinct_names}
use Rattle.book.proofs.Runs.{reached}
use Rattle.book.proofs.book.Book.resting_orders.Goals as goal

pub returns-clause-reached : goal.returns-clause-reached
returns-clause-reached g c = reached _ _ _ _ c.self.view_is c.self.invariant

pub returns-clause-explained : goal.returns-clause-explained
returns-clause-explained g c = rw (← c.self.view_is) (discretion_explained _ _ _ c.self.invariant)

pub returns-clause-never_crossed : goal.returns-clause-never_crossed
returns-clause-never_crossed g c = rw (← c.self.view_is) (uncrossed _ _ _ c.self.invariant)

pub returns-clause-distinct : goal.returns-clause-distinct
returns-clause-distinct g c =
    rw (← c.self.view_is) (distinct_names (vec_items c.self.inside.engine.market.table.rows) c.self.invariant.tied.apart c.self.invariant.rests)
