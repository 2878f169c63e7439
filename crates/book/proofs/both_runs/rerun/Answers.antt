use Rattle.std.proofs.Common.{sym, ap, ◌∙◌, vec_items}
use Rattle.terms.specs.declared.quote.Quote.{Quote}
use Rattle.rules.specs.Runs.{run, opened}
use Rattle.book.specs.Told.{calls_of}
use Rattle.book.specs.Replayed.{run_of}
use Rattle.book.proofs.Laws.{law_of}
use Rattle.book.proofs.both_runs.rerun.Goals as goal

-- both books were opened at the quote
pub returns-clause-law : goal.returns-clause-law
returns-clause-law g c =
    let first = c.in-Ok.stage in
    let second = c.in-Ok-new.stage in
    let p = c.play.result in
    let q = c.play-2.result in
    let quote = first.book.table.quote in
    let room = g.T.Tape.free first.book.tape in
    let other_room = g.U.Tape.free second.book.tape in
    let cs = calls_of c.args.calls.now in
    let other_cs = calls_of c.args.other_calls.now in
    law_of quote.bid quote.offer room other_room cs other_cs (run_of (vec_items p.answers) p.book) (run_of (vec_items q.answers) q.book) c.play.ensures.ran
    (c.play-2.ensures.ran ∙ ap (λ (z : Quote). run other_room other_cs (opened z.bid z.offer)) (c.in-Ok-new.ensures.book.at_quote ∙ sym c.in-Ok.ensures.book.at_quote))
