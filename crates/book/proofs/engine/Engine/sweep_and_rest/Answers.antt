-- The pair is put and the row joins, so that the directory is tied to the rows; sweeping changes shares alone.
use Rattle.std.proofs.Common.{◌≡◌, ◌-◌, [], ◌∷◌, ◌++◌, vec_items, ap, ◌∙◌}
use Rattle.terms.specs.Identifiers.{lawful_identifier}
use Rattle.rules.specs.Market.{Market, resting}
use Rattle.rules.specs.Answers.{entered}
use Rattle.rules.specs.Calls.{left_of}
use Rattle.book.specs.Tied.{row_name}
use Rattle.book.proofs.Kept.{tied_kept}
use Rattle.book.proofs.Joined.{row_joined, put_added}
use Rattle.book.proofs.engine.Engine.sweep_and_rest.Goals as goal

pub returns : goal.returns
returns g c =
    let ready = c.requires.ready in
    let place = c.requires.place in
    let d = g.D.Directory in
    let t = g.T.Tape in
    let here = c.args.self.now in
    let row = c.args.row in
    let k = row.number in
    let rows = vec_items here.market.table.rows in
    let held = c.put.new.self in
    let id = c.as_bytes.result.now in
    let name : id ≡ row_name row = c.as_bytes.ensures in
    let added =
    put_added c.put.result id k (d.number here.directory) (d.number held) (d.count here.directory) (d.count held) c.put.ensures
    (ap lawful_identifier name ∙ row.identifier.lawful) (ap (d.number here.directory) name ∙ place.fresh) place.free
    in
    let joined = row_joined row rows id (d.number here.directory) (d.number held) (d.count here.directory) (d.count held) name added ready.tied in
    let market = c.sweep_in.ensures.market in
    let left = c.shares_left-left.ensures ∙ ap (λ (m : Market). left_of (resting k m.orders)) market in
    record {
      answer = ap (λ n. entered k n 0) (c.saturating_sub.ensures ∙ ap (λ n. row.left - n) left);
      market = c.tidy.ensures.market ∙ market;
      tidied =
          record {
            tied = λ _.
                c.tidy.ensures.tidied.tied
                (tied_kept (d.number held) (d.count held) (rows ++ (row ∷ [])) (vec_items c.sweep_in.new.self.table.rows) c.sweep_in.ensures.rows joined);
            rests = c.tidy.ensures.tidied.rests;
            capacity = c.tidy.ensures.tidied.capacity ∙ c.sweep_in.ensures.capacity;
          };
      clock = c.tidy.ensures.clock;
      entries = c.tidy.ensures.entries;
    }
