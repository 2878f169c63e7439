use Rattle.std.proofs.Common.{◌+◌, Some, None, vec_items, ap, ◌∙◌, arith}
use Rattle.std.specs.Option.{option_map}
use Rattle.rules.specs.Questions.{ranking_of}
use Rattle.market.specs.Rows.{row_order}
use Rattle.market.specs.Seen.{seen}
use Rattle.market.proofs.Places.{ascends, next_place, within, past}
use Rattle.market.proofs.ranking.Ranking.at.Goals as goal

pub returns-in_err-next : goal.returns-in_err-next
returns-in_err-next c =
    let m = seen c.args.self.now.table.now in
    let os = ranking_of m c.args.self.now.side m.orders in
    let i = c.loop.counter in
    let up = ascends 0 (vec_items c.args.self.now.table.now.rows) c.args.self.now.table.now.ascending in
    let none = next_place m c.args.self.now.side i (option_map row_order c.loop.row) None up c.loop.invariant.there c.loop.invariant.within c.in_err-next.ensures in
    ap (option_map row_order) c.from_residual.ensures ∙ past (i + 1) c.args.place os (omega arith) (omega arith) none

pub loop-preserved : goal.loop-preserved
loop-preserved c =
    let m = seen c.args.self.now.table.now in
    let os = ranking_of m c.args.self.now.side m.orders in
    let i = c.loop.counter in
    let next = row_order c.in_ok-next.next in
    let up = ascends 0 (vec_items c.args.self.now.table.now.rows) c.args.self.now.table.now.ascending in
    let at = next_place m c.args.self.now.side i (option_map row_order c.loop.row) (Some next) up c.loop.invariant.there c.loop.invariant.within c.in_ok-next.ensures in
    record { there = at; within = within (i + 1) os next at }
