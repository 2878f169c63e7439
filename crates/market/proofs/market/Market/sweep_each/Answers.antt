use Rattle.std.proofs.Common.{◌≡◌, ℕ, List, ◌+◌, ◌<◌, ◌≤◌, length, get_or, drop, None, vec_items, sym, refl, ap, ◌∙◌, subst, arith}
use Rattle.std.proofs.lemmas.List.{length-map}
use Rattle.std.proofs.lemmas.Option.{slice_get-get_or}
use Rattle.std.specs.List.{slice_get}
use Rattle.rules.proofs.Cases.{option_some}
use Rattle.rules.specs.Market.{Order, Market, resting, those}
use Rattle.rules.specs.Sweep.{sweep_each}
use Rattle.market.specs.Rows.{orders_in}
use Rattle.market.specs.Changes.{with_left}
use Rattle.market.specs.Markets.{market_of, capacity_of}
use Rattle.market.specs.Rounds.{woken, swept_if, swept_at}
use Rattle.market.proofs.Turns.{row_there, round_turn, absent_turn, room_turn, round_over}
use Rattle.market.proofs.Underway.{arrived}
use Rattle.market.proofs.market.Market.sweep_each.Goals as goal
use Rattle.market.proofs.market.Market.sweep_each.Goals.{In-loop-index}
use Rattle.market.proofs.market.Market.sweep_each.Given.{Over}

-- a turn of the round: what comes of the row, and what is left of the round from there on
abbrev next : (g : Over) (c : In-loop-index g) → Market
next g c = swept_at c.args.round c.args.time c.loop-index.index (vec_items c.loop-index.self.table.rows) (market_of g.T.Tape c.loop-index.self)

abbrev later : (g : Over) (c : In-loop-index g) → List Order
later g c = those (woken c.args.round) (orders_in (drop (c.loop-index.index + 1) (vec_items c.args.self.now.table.rows)))

record Turn (g : Over) (c : In-loop-index g) : Type 0 where
  whole : sweep_each c.args.time (those (woken c.args.round) (market_of g.T.Tape c.args.self.now).orders) (market_of g.T.Tape c.args.self.now) ≡ sweep_each c.args.time (later g c) (next g c)
  absent : (j : ℕ) → resting j (market_of g.T.Tape c.args.self.now).orders ≡ None → resting j (next g c).orders ≡ None

turn : (g : Over) (c : In-loop-index g) → Turn g c
turn g c =
    let rs = vec_items c.args.self.now.table.rows in
    let here = vec_items c.loop-index.self.table.rows in
    let i = c.loop-index.index in
    let m = market_of g.T.Tape c.loop-index.self in
    let same = c.loop-index.invariant.rows in
    let so = c.loop-index.invariant.so in
    let long : length here ≡ length rs = sym (length-map here (with_left 0)) ∙ ap length same ∙ length-map rs (with_left 0) in
    let lt : i < length rs = omega (arith, c.loop-index-test.true, c.len-rows.ensures) in
    let within : i < length here = omega (arith, long, lt) in
    let d = row_there here i within in
    let is : next g c ≡ swept_if c.args.round c.args.time (get_or here i d) m =
    option_some (slice_get here i) m (λ r. swept_if c.args.round c.args.time r m) (get_or here i d) (slice_get-get_or here i d within)
    in
    record {
      whole = so.0 ∙ round_turn c.args.round c.args.time rs here i d lt within same m c.args.self.now.table.ascending so.1 ∙ ap (sweep_each c.args.time (later g c)) (sym is);
      absent = λ j e. subst (λ (r : Market). resting j r.orders ≡ None) (sym is) (absent_turn c.args.round c.args.time (get_or here i d) j m (so.1 j e));
    }

pub sweep_row-requires : goal.sweep_row-requires
sweep_row-requires g c =
    let at = (goal.at.sweep_row-requires g c).In-loop-index in
    record {
      day = c.requires.day;
      room = subst (λ n. length (next g at).tape ≤ n) (sym c.loop-index.invariant.capacity) (room_turn c.args.time (later g at) (next g at) _ (capacity_of g.T.Tape c.args.self.now) (turn g at).whole c.requires.room);
    }

pub loop-index-preserved : goal.loop-index-preserved
loop-index-preserved g c =
    let at = (goal.at.loop-index-preserved g c).In-loop-index in
    let done = c.sweep_row.ensures.market in
    record {
      so = (
        (turn g at).whole ∙ ap (sweep_each c.args.time (later g at)) (sym done),
        λ j e. subst (λ (r : Market). resting j r.orders ≡ None) (sym done) ((turn g at).absent j e),
      );
      capacity = c.sweep_row.ensures.capacity ∙ c.loop-index.invariant.capacity;
      rows = c.sweep_row.ensures.rows ∙ c.loop-index.invariant.rows;
    }

pub returns : goal.returns
returns g c =
    arrived g.T.Tape c.args.self.now c.loop-index.self (λ m. sweep_each c.args.time (those (woken c.args.round) m.orders) m) _ _ refl c.loop-index.invariant
    (λ so. so.0 ∙ round_over c.args.time (woken c.args.round) (vec_items c.args.self.now.table.rows) c.loop-index.index (market_of g.T.Tape c.loop-index.self) (omega (arith, c.loop-index-test.false, c.len-rows.ensures)))
