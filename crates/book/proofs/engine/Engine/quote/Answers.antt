use Rattle.std.proofs.Common.{vec_items, refl, ◌∙◌}
use Rattle.std.proofs.lemmas.Result.{err_from_is_err_and}
use Rattle.rules.specs.Answers.{quoted}
use Rattle.rules.specs.Calls.{quote, done_at}
use Rattle.book.proofs.Alike.{same_book}
use Rattle.book.proofs.Kept.{tied_kept}
use Rattle.book.proofs.Calling.{carried_on}
use Rattle.book.proofs.engine.Engine.quote.Goals as goal

pub returns-in_err-advance : goal.returns-in_err-advance
returns-in_err-advance g c =
    let p = err_from_is_err_and c.from_residual.result c.from_residual.ensures.1 in
    rw (p.1, p.2) (c.in_err-advance.ensures (quote c.args.time c.args.quote.bid c.args.quote.offer) refl refl)

pub requote-requires : goal.requote-requires
unfolding done_at
requote-requires g c =
    let brought = c.in_ok-advance.ensures in
    record { day = brought.day; room = brought.lines (quote c.args.time c.args.quote.bid c.args.quote.offer) refl refl }

pub returns : goal.returns
unfolding done_at
returns g c =
    let d = g.D.Directory in
    let t = g.T.Tape in
    let mid = c.advance.new.self in
    let call = quote c.args.time c.args.quote.bid c.args.quote.offer in
    let brought = c.in_ok-advance.ensures in
    carried_on d t c.args.self.now mid c.tidy.new.self call quoted c.requires brought refl refl
    (same_book (c.tidy.ensures.market ∙ c.requote.ensures.market) (c.tidy.ensures.clock ∙ brought.clock) c.tidy.ensures.entries)
    (record {
      tied = λ tied.
          c.tidy.ensures.tidied.tied
          (tied_kept (d.number mid.directory) (d.count mid.directory) (vec_items mid.market.table.rows) (vec_items c.requote.new.self.table.rows) c.requote.ensures.rows tied);
      rests = c.tidy.ensures.tidied.rests;
      capacity = c.tidy.ensures.tidied.capacity ∙ c.requote.ensures.capacity;
    })
