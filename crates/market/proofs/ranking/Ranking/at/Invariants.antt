use Rattle.std.specs.Option.{option_map}
use Rattle.market.specs.Rows.{row_order}
use Rattle.market.specs.Seen.{seen}
use Rattle.market.proofs.Places.{Reached}
use Rattle.market.proofs.ranking.Ranking.at.Given as goal

abbrev pub invariant-loop : goal.invariant-loop
invariant-loop l = Reached (seen l.self.table.now) l.self.side l.counter (option_map row_order l.row)
