use Rattle.std.proofs.Common.{vec_items, sym, refl, ◌∙◌}
use Rattle.rules.specs.Clock.{at_time}
use Rattle.rules.proofs.Settle.{due_none, settle_still}
use Rattle.market.specs.Markets.{market_of}
use Rattle.market.proofs.Underway.{none_from}
use Rattle.book.proofs.Alike.{same_book}
use Rattle.book.proofs.Kept.{tied_kept}
use Rattle.book.proofs.engine.Engine.bring_to.Goals as goal

-- where nothing is due, settling leaves the market as it is
pub returns-then-is_none-clause-book : goal.returns-then-is_none-clause-book
unfolding at_time
returns-then-is_none-clause-book g c =
    let here = market_of g.T.Tape c.args.self.now.market in
    same_book (sym (settle_still c.args.time here (due_none c.args.time here (sym c.due.ensures ∙ none_from c.due.result c.if-is_none.ensures)))) refl refl

pub returns-then-is_none-clause-tidied : goal.returns-then-is_none-clause-tidied
returns-then-is_none-clause-tidied g c = record { tied = λ tied. tied; rests = c.requires.rests; capacity = refl }

pub returns-clause-book : goal.returns-clause-book
unfolding at_time
returns-clause-book g c = same_book (c.tidy.ensures.market ∙ c.settle.ensures.follows.market) c.tidy.ensures.clock c.tidy.ensures.entries

pub returns-clause-tidied : goal.returns-clause-tidied
returns-clause-tidied g c =
    let d = g.D.Directory in
    let here = c.args.self.now in
    record {
      tied = λ tied.
          c.tidy.ensures.tidied.tied
          (tied_kept (d.number here.directory) (d.count here.directory) (vec_items here.market.table.rows) (vec_items c.settle.new.self.table.rows) c.settle.ensures.follows.rows tied);
      rests = c.tidy.ensures.tidied.rests;
      capacity = c.tidy.ensures.tidied.capacity ∙ c.settle.ensures.follows.capacity;
    }
