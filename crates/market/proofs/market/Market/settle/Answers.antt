use Rattle.std.proofs.Common.{◌≡◌, ℕ, suc, ◌+◌, ◌-◌, ◌≤◌, length, vec_items, sym, ap, ◌∙◌, subst, arith}
use Rattle.rules.specs.Clock.{end_periods, end_period, settle}
use Rattle.rules.proofs.Settle.{due_is, ends_none, ends_some}
use Rattle.market.proofs.Found.{resting_few}
use Rattle.market.specs.Markets.{market_of, capacity_of}
use Rattle.market.proofs.Settled.{settle_ends, end_free, ends_over}
use Rattle.market.proofs.Ended.{settle_ended}
use Rattle.market.proofs.Underway.{arrived}
use Rattle.market.proofs.market.Market.settle.Goals as goal
use Rattle.market.proofs.market.Market.settle.Goals.{In-Some}
use Rattle.market.proofs.market.Market.settle.Given.{Over}
use Rattle.rules.specs.Market.{Market}

pub overflow_add-periods : goal.overflow_add-periods
overflow_add-periods g c =
    let rows = c.args.self.now.table.rows in
    omega (arith, c.len_resting-periods.ensures, resting_few (vec_items rows), c.args.self.now.table.few, rows.ok.0)

-- what is left of the settling from a period on gives the whole
goes : (g : Over) (c : In-Some g) → end_periods (c.len_resting-periods.result + 2) c.args.time (market_of g.T.Tape c.args.self.now)
    ≡ end_periods ((c.len_resting-periods.result + 2) - (c.loop.counter + 1)) c.args.time (end_period (c.in-Some.side, c.in-Some.end) (market_of g.T.Tape c.loop.self))
goes g c =
    let here = market_of g.T.Tape c.loop.self in
    let left : ℕ = (c.len_resting-periods.result + 2) - (c.loop.counter + 1) in
    let turn : (c.len_resting-periods.result + 2) - c.loop.counter ≡ suc left = omega (arith, c.loop-test.true) in
    c.loop.invariant.so
    ∙ ap (λ n. end_periods n c.args.time here) turn
    ∙ ends_some left c.args.time here (c.in-Some.side, c.in-Some.end) (sym c.in-Some.ensures)

pub end_period-requires : goal.end_period-requires
end_period-requires g c =
    let here = market_of g.T.Tape c.loop.self in
    let e = settle_ends c.args.time (c.len_resting-periods.result + 2) (market_of g.T.Tape c.args.self.now) (ap (λ n. n + 2) c.len_resting-periods.ensures) in
    record {
      day = omega (arith, (due_is c.args.time here (c.in-Some.side, c.in-Some.end) (sym c.in-Some.ensures)).by, c.requires.day);
      room = subst (λ n. length (end_period (c.in-Some.side, c.in-Some.end) here).tape ≤ n) (sym c.loop.invariant.capacity)
          (end_free _ c.args.time here _ (c.in-Some.side, c.in-Some.end) (capacity_of g.T.Tape c.args.self.now) (goes g (goal.at.end_period-requires g c).In-Some)
          (subst (λ (m : Market). length m.tape ≤ capacity_of g.T.Tape c.args.self.now) e c.requires.room));
    }

pub loop-preserved : goal.loop-preserved
loop-preserved g c =
    record {
      so = goes g (goal.at.loop-preserved g c).In-Some ∙ ap (end_periods _ c.args.time) (sym c.end_period.ensures.market);
      capacity = c.end_period.ensures.capacity ∙ c.loop.invariant.capacity;
      rows = c.end_period.ensures.rows ∙ c.loop.invariant.rows;
    }

pub returns-in_default : goal.returns-in_default
returns-in_default g c =
    let e = settle_ends c.args.time (c.len_resting-periods.result + 2) (market_of g.T.Tape c.args.self.now) (ap (λ n. n + 2) c.len_resting-periods.ensures) in
    let follows =
    arrived g.T.Tape c.args.self.now c.loop.self (settle c.args.time) _ _ e c.loop.invariant (λ so. so ∙ ends_none _ c.args.time (market_of g.T.Tape c.loop.self) (sym c.in_default.ensures)) in
    record { follows = follows; nothing_due = settle_ended g.T.Tape c.args.self.now c.loop.self c.args.time follows }

pub returns : goal.returns
returns g c =
    let e = settle_ends c.args.time (c.len_resting-periods.result + 2) (market_of g.T.Tape c.args.self.now) (ap (λ n. n + 2) c.len_resting-periods.ensures) in
    let follows =
    arrived g.T.Tape c.args.self.now c.loop.self (settle c.args.time) _ _ e c.loop.invariant (λ so. so ∙ ends_over _ c.args.time (market_of g.T.Tape c.loop.self) (omega (arith, c.loop-test.false))) in
    record { follows = follows; nothing_due = settle_ended g.T.Tape c.args.self.now c.loop.self c.args.time follows }
