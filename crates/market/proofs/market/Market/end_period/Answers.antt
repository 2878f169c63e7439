use Rattle.std.proofs.Common.{◌≤◌, map, length, vec_items, sym, ap, ◌∙◌, subst}
use Rattle.rules.specs.Market.{Market}
use Rattle.market.specs.Seen.{market_with}
use Rattle.market.specs.Changes.{with_left}
use Rattle.market.specs.Markets.{market_of, capacity_of}
use Rattle.market.proofs.Settled.{period_ended}
use Rattle.market.proofs.market.Market.end_period.Goals as goal

pub sweep_each-requires : goal.sweep_each-requires
sweep_each-requires g c =
    let lines = g.T.Tape.lines c.args.self.now.tape in
    let p = period_ended c.args.side c.args.end (market_of g.T.Tape c.args.self.now) (market_with lines c.set_end.new.self) (c.set_end.ensures.market lines) in
    record { day = c.requires.day; room = subst (λ (m : Market). length m.tape ≤ capacity_of g.T.Tape c.args.self.now) p c.requires.room }

pub returns : goal.returns
returns g c =
    let lines = g.T.Tape.lines c.args.self.now.tape in
    let p = period_ended c.args.side c.args.end (market_of g.T.Tape c.args.self.now) (market_with lines c.set_end.new.self) (c.set_end.ensures.market lines) in
    record {
      market = c.sweep_each.ensures.market ∙ sym p;
      capacity = c.sweep_each.ensures.capacity;
      rows = c.sweep_each.ensures.rows ∙ ap (λ v. map (with_left 0) (vec_items v)) c.set_end.ensures.rows;
    }
