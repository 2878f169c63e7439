-- The row joins, as it can, so that the sweep finds it among the others.
use Rattle.std.proofs.Common.{◌≡◌, ◌≤◌, length, sym, ap, ◌∙◌, subst}
use Rattle.rules.specs.Finished.{FilledOrAlone}
use Rattle.rules.specs.Market.{Market, reach_in}
use Rattle.rules.specs.Sweep.{sweep}
use Rattle.rules.specs.Calls.{swept_in, joined}
use Rattle.rules.proofs.Finished.{swept_in_finished}
use Rattle.market.specs.Rows.{row_order}
use Rattle.market.specs.Seen.{market_with}
use Rattle.market.specs.Markets.{market_of, capacity_of}
use Rattle.market.proofs.market.Market.sweep_in.Goals as goal
use Rattle.market.proofs.market.Market.sweep_in.Goals.{After-join}
use Rattle.market.proofs.market.Market.sweep_in.Given.{Over}

joins : (g : Over) (c : After-join g) → market_with (g.T.Tape.lines c.args.self.now.tape) c.join.new.self ≡ joined (row_order c.args.row) (market_of g.T.Tape c.args.self.now)
joins g c = c.join.ensures.market (g.T.Tape.lines c.args.self.now.tape)

pub sweep-requires : goal.sweep-requires
unfolding swept_in
sweep-requires g c =
    let can = c.requires.follows in
    record {
      day = can.day;
      room = subst (λ (m : Market). length (sweep c.args.time (row_order c.args.row) m).tape ≤ capacity_of g.T.Tape c.args.self.now) (sym (joins g (goal.at.sweep-requires g c).After-join)) can.room;
    }

pub returns-clause-market : goal.returns-clause-market
unfolding swept_in
returns-clause-market g c = c.sweep.ensures.follows.market ∙ ap (sweep c.args.time (row_order c.args.row)) (joins g (goal.at.returns-clause-market g c).After-join)

pub returns-clause-finished : goal.returns-clause-finished
returns-clause-finished g c =
    let o = row_order c.args.row in
    let m = market_of g.T.Tape c.args.self.now in
    subst (λ (r : Market). FilledOrAlone o (reach_in m o) r) (sym (returns-clause-market g c)) (swept_in_finished c.args.time o m)
