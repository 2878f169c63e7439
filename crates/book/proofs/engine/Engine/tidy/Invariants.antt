use Rattle.std.proofs.Common.{◌≡◌, length}
use Rattle.market.specs.Markets.{market_of}
use Rattle.market.specs.Seen.{rows_of}
use Rattle.book.specs.Running.{BookTied}
use Rattle.book.proofs.engine.Engine.tidy.Given as goal

abbrev pub invariant-loop-identifier : goal.invariant-loop-identifier
invariant-loop-identifier g l =
    (BookTied g.D.Directory l.initial.self → BookTied g.D.Directory l.self)
    × (market_of g.T.Tape l.self.market ≡ market_of g.T.Tape l.initial.self.market)
    × (l.self.market.tape ≡ l.initial.self.market.tape)
    × (l.self.clock ≡ l.initial.self.clock)
    × (l.self.entries ≡ l.initial.self.entries)

abbrev pub decreases-loop-identifier : goal.decreases-loop-identifier
decreases-loop-identifier g l = length (rows_of l.self.market.table)
