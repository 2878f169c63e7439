use Rattle.std.proofs.Common.{Some, None, ap, arith}
use Rattle.std.specs.Option.{option_map}
use Rattle.market.specs.Rows.{row_order}
use Rattle.market.specs.Seen.{seen}
use Rattle.market.specs.Meant.{standing_as}
use Rattle.market.proofs.Asked.{answered, told_of}
use Rattle.market.proofs.ranking.ask.Goals as goal

pub returns-in_err-row : goal.returns-in_err-row
returns-in_err-row c tape =
    answered tape c.args.table.now c.args.code c.args.place c.in_ok-side.side None _
    (grind arith) c.in_err-row.ensures
    (ap (option_map standing_as) c.from_residual-in_err-row.ensures)

pub returns : goal.returns
returns c tape =
    let row = c.in_ok-row.row in
    answered tape c.args.table.now c.args.code c.args.place c.in_ok-side.side (Some (row_order row)) _
    (grind arith) c.in_ok-row.ensures
    (told_of (seen c.args.table.now) (row_order row) c.ranked.result c.reach.result c.ranked.ensures c.reach.ensures)
