-- The new row is the newest, whatever is left of it, so that dropping it leaves the rows that were there.
use Rattle.std.proofs.Common.{◌-◌, List, vec_items, sym, ap, ◌∙◌, subst}
use Rattle.rules.specs.Market.{Market, resting, without, with_orders}
use Rattle.rules.specs.Answers.{entered}
use Rattle.rules.specs.Calls.{left_of}
use Rattle.market.specs.declared.table.Row.{Row}
use Rattle.market.specs.Changes.{SameButShares}
use Rattle.market.specs.Markets.{market_of}
use Rattle.book.proofs.Kept.{tied_kept}
use Rattle.book.proofs.Joined.{newest_same, front_same}
use Rattle.book.proofs.engine.Engine.sweep_and_lapse.Goals as goal

pub returns : goal.returns
returns g c =
    let ready = c.requires in
    let d = g.D.Directory in
    let t = g.T.Tape in
    let here = c.args.self.now in
    let row = c.args.row in
    let k = row.number in
    let rows = vec_items here.market.table.rows in
    let swept = c.sweep_in.new.self in
    let swept_rows = vec_items swept.table.rows in
    let same = c.sweep_in.ensures.rows in
    let market = c.sweep_in.ensures.market in
    let left = c.shares_left-left.ensures ∙ ap (λ (m : Market). left_of (resting k m.orders)) market in
    let m = market_of t swept in
    let fewer : SameButShares rows (vec_items c.drop_newest.new.self.rows) =
    subst (λ (rs : List Row). SameButShares rows rs) (sym c.drop_newest.ensures.rows) (front_same rows swept_rows row same)
    in
    record {
      answer =
          ap (λ n. entered k n c.shares_left-left.result) c.saturating_sub.ensures
          ∙ ap (λ n. entered k (row.left - n) n) left;
      market =
          c.tidy.ensures.market
          ∙ c.drop_newest.ensures.market (t.lines swept.tape)
          ∙ ap (λ n. with_orders (without n m.orders) m) (newest_same rows swept_rows row same)
          ∙ ap (λ (z : Market). with_orders (without k z.orders) z) market;
      tidied =
          record {
            tied = λ _.
                c.tidy.ensures.tidied.tied
                (tied_kept (d.number here.directory) (d.count here.directory) rows (vec_items c.drop_newest.new.self.rows) fewer ready.tied);
            rests = c.tidy.ensures.tidied.rests;
            capacity = c.tidy.ensures.tidied.capacity ∙ c.sweep_in.ensures.capacity;
          };
      clock = c.tidy.ensures.clock;
      entries = c.tidy.ensures.entries;
    }
