-- The invariant of the loop: what is left of the sweep, from here on, gives the whole sweep.
use Rattle.std.proofs.Common.{◌≡◌, ℕ, suc, ◌+◌, ◌-◌, ◌≤◌, length, vec_items, sym, ap, ◌∙◌, subst, arith}
use Rattle.rules.specs.Sweep.{lines, sweep, trade}
use Rattle.rules.specs.Market.{Market}
use Rattle.market.specs.Rows.{row_order}
use Rattle.market.specs.Markets.{market_of, capacity_of}
use Rattle.market.proofs.Lined.{partner_still, sweep_lines, lines_none, lines_gone, lines_idle, lines_go, line_room}
use Rattle.market.proofs.Found.{resting_few}
use Rattle.market.proofs.Ended.{sweep_ended}
use Rattle.market.proofs.Underway.{arrived, told_none}
use Rattle.market.proofs.market.Market.sweep.Goals as goal
use Rattle.market.proofs.market.Market.sweep.Goals.{In-Some-row}
use Rattle.market.proofs.market.Market.sweep.Given.{Over}

-- what is left of the sweep from a line on gives the whole
goes : (g : Over) (c : In-Some-row g) → lines c.len-turns.result c.args.time c.reach-price.result (row_order c.args.taker.now) (market_of g.T.Tape c.args.self.now)
    ≡ lines (c.len-turns.result - (c.loop.counter + 1)) c.args.time c.reach-price.result (row_order c.args.taker.now) (trade c.args.time c.reach-price.result (row_order c.in-Some-row.row) (row_order c.in-Some.partner) (market_of g.T.Tape c.loop.self))
goes g c =
    let o = row_order c.args.taker.now in
    let here = market_of g.T.Tape c.loop.self in
    let left : ℕ = c.len-turns.result - (c.loop.counter + 1) in
    let turn : c.len-turns.result - c.loop.counter ≡ suc left = omega (arith, c.loop-test.true) in
    let partner = sym (c.in-Some.ensures ∙ partner_still (g.T.Tape.lines c.loop.self.tape) c.loop.self.table o c.reach-price.result) in
    c.loop.invariant.so
    ∙ ap (λ n. lines n c.args.time c.reach-price.result o here) turn
    ∙ lines_go c.args.time c.reach-price.result o left here (row_order c.in-Some-row.row) (row_order c.in-Some.partner) (sym c.in-Some-row.ensures) partner

pub line-requires : goal.line-requires
line-requires g c =
    let o = row_order c.args.taker.now in
    let e = sweep_lines (g.T.Tape.lines c.args.self.now.tape) c.args.self.now.table c.args.time o c.len-turns.result c.reach-price.result (rw c.len-turns.ensures (resting_few (vec_items c.args.self.now.table.rows))) c.reach-price.ensures in
    record {
      day = c.requires.day;
      room = line_room c.args.time c.reach-price.result o _ (market_of g.T.Tape c.loop.self) _ (row_order c.in-Some-row.row) (row_order c.in-Some.partner) (capacity_of g.T.Tape c.loop.self) (capacity_of g.T.Tape c.args.self.now)
          (goes g (goal.at.line-requires g c).In-Some-row) (subst (λ (m : Market). length m.tape ≤ capacity_of g.T.Tape c.args.self.now) e c.requires.room) c.loop.invariant.capacity;
    }

pub loop-preserved : goal.loop-preserved
loop-preserved g c =
    record {
      so = goes g (goal.at.loop-preserved g c).In-Some-row ∙ ap (lines _ c.args.time c.reach-price.result (row_order c.args.taker.now)) (sym c.line.ensures.market);
      capacity = c.line.ensures.capacity ∙ c.loop.invariant.capacity;
      rows = c.line.ensures.rows ∙ c.loop.invariant.rows;
    }

pub returns-in_default : goal.returns-in_default
returns-in_default g c =
    let o = row_order c.args.taker.now in
    let e = sweep_lines (g.T.Tape.lines c.args.self.now.tape) c.args.self.now.table c.args.time o c.len-turns.result c.reach-price.result (rw c.len-turns.ensures (resting_few (vec_items c.args.self.now.table.rows))) c.reach-price.ensures in
    let follows =
    arrived g.T.Tape c.args.self.now c.loop.self (sweep c.args.time o) _ _ e c.loop.invariant (λ so. so ∙ lines_idle c.args.time c.reach-price.result o _ (market_of g.T.Tape c.loop.self)
    (sym (c.in_default.ensures ∙ partner_still (g.T.Tape.lines c.loop.self.tape) c.loop.self.table o c.reach-price.result))) in
    record { follows = follows; finished = sweep_ended g.T.Tape c.args.self.now c.loop.self c.args.time o follows }

pub returns-in_default-row : goal.returns-in_default-row
returns-in_default-row g c =
    let o = row_order c.args.taker.now in
    let e = sweep_lines (g.T.Tape.lines c.args.self.now.tape) c.args.self.now.table c.args.time o c.len-turns.result c.reach-price.result (rw c.len-turns.ensures (resting_few (vec_items c.args.self.now.table.rows))) c.reach-price.ensures in
    let follows =
    arrived g.T.Tape c.args.self.now c.loop.self (sweep c.args.time o) _ _ e c.loop.invariant (λ so. so ∙ lines_gone c.args.time c.reach-price.result o _ (market_of g.T.Tape c.loop.self) (sym c.in_default-row.ensures)) in
    record { follows = follows; finished = sweep_ended g.T.Tape c.args.self.now c.loop.self c.args.time o follows }

pub returns : goal.returns
returns g c =
    let o = row_order c.args.taker.now in
    let e = sweep_lines (g.T.Tape.lines c.args.self.now.tape) c.args.self.now.table c.args.time o c.len-turns.result c.reach-price.result (rw c.len-turns.ensures (resting_few (vec_items c.args.self.now.table.rows))) c.reach-price.ensures in
    let follows =
    arrived g.T.Tape c.args.self.now c.loop.self (sweep c.args.time o) _ _ e c.loop.invariant (λ so. so ∙ lines_none c.args.time c.reach-price.result o _ (market_of g.T.Tape c.loop.self) (omega (arith, c.loop-test.false))) in
    record { follows = follows; finished = sweep_ended g.T.Tape c.args.self.now c.loop.self c.args.time o follows }

pub returns-then-is_none-clause-follows : goal.returns-then-is_none-clause-follows
returns-then-is_none-clause-follows g c =
    let o = row_order c.args.taker.now in
    let e = sweep_lines (g.T.Tape.lines c.args.self.now.tape) c.args.self.now.table c.args.time o c.len-turns.result c.reach-price.result (rw c.len-turns.ensures (resting_few (vec_items c.args.self.now.table.rows))) c.reach-price.ensures in
    let so = goes g (goal.at.returns-then-is_none-clause-follows g c).In-Some-row ∙ ap (lines _ c.args.time c.reach-price.result o) (sym c.line.ensures.market) in
    record {
      market = sym (e ∙ (so ∙ lines_gone c.args.time c.reach-price.result o _ (market_of g.T.Tape c.line.new.self) (told_none _ c.index_of.result c.if-is_none.ensures c.index_of.ensures)));
      capacity = c.line.ensures.capacity ∙ c.loop.invariant.capacity;
      rows = c.line.ensures.rows ∙ c.loop.invariant.rows;
    }
