-- Each way out, by the lemma of its kind; once the clock is at the time, the directory's answer is the rule book's.
use Rattle.std.proofs.Common.{◌≡◌, vec_items, sym, refl, ap, ◌∙◌}
use Rattle.std.proofs.lemmas.Result.{err_from_is_err_and}
use Rattle.terms.specs.Naming.{identifier_bytes}
use Rattle.rules.specs.declared.refusal.Refusal.TheVariants.{Identifier, NoSuchOrder}
use Rattle.rules.specs.Market.{without, with_orders}
use Rattle.rules.specs.Answers.{cancelled}
use Rattle.rules.specs.Calls.{cancel, Outcome, left_of}
use Rattle.rules.proofs.Lasting.{call_unlawful}
use Rattle.market.specs.Markets.{market_of}
use Rattle.book.specs.Running.{book_of}
use Rattle.book.proofs.Alike.{same_book}
use Rattle.book.proofs.Named.{found_none, found_some}
use Rattle.book.proofs.Calling.{early, cancel_none, cancel_some, carried_on, declined}
use Rattle.book.proofs.Identified.{identified, lawfully, unlawful}
use Rattle.book.proofs.engine.Engine.cancel.Goals as goal
use Rattle.book.proofs.engine.Engine.cancel.Goals.{In_ok-identifier}
use Rattle.book.proofs.engine.Engine.cancel.Given.{Over}

name : (g : Over) (c : In_ok-identifier g) → identifier_bytes c.in_ok-identifier.identifier ≡ c.args.id.now
name g c = identified c.args.id.now c.new.result c.ok_or.result c.in_ok-identifier.identifier c.new.ensures c.ok_or.ensures.value c.in_ok-identifier.was

pub returns-in_err-identifier : goal.returns-in_err-identifier
returns-in_err-identifier g c =
    let t = g.T.Tape in
    let here = c.args.self.now in
    let call = cancel c.args.time c.args.id.now in
    let p = err_from_is_err_and c.from_residual.result c.from_residual.ensures.1 in
    let refused = unlawful c.args.id.now c.new.result c.ok_or.result c.in_err-identifier.field-0.0 c.new.ensures c.ok_or.ensures.value c.in_err-identifier.was in
    rw (p.1, p.2, refused.1) (early g.D.Directory t here call Identifier (call_unlawful (t.free here.market.tape) call (book_of t here) refused.0) c.requires)

pub returns-in_err-advance : goal.returns-in_err-advance
returns-in_err-advance g c =
    let p = err_from_is_err_and c.from_residual-in_err-advance.result c.from_residual-in_err-advance.ensures.1 in
    let lawful = lawfully c.args.id.now c.in_ok-identifier.identifier (name g (goal.at.returns-in_err-advance g c).In_ok-identifier) in
    rw (p.1, p.2) (c.in_err-advance.ensures (cancel c.args.time c.args.id.now) refl lawful)

pub returns-in_default : goal.returns-in_default
returns-in_default g c =
    let t = g.T.Tape in
    let time = c.args.time in
    let id = c.args.id.now in
    let mid = c.advance.new.self in
    let own : c.as_bytes.result.now ≡ id = c.as_bytes.ensures ∙ name g (goal.at.returns-in_default g c).In_ok-identifier in
    let lawful = lawfully id c.in_ok-identifier.identifier (name g (goal.at.returns-in_default g c).In_ok-identifier) in
    let brought = c.in_ok-advance.ensures in
    let none = found_none id (vec_items mid.market.table.rows) brought.rests (sym (brought.tied.known id) ∙ sym (c.in_default.ensures ∙ ap (g.D.Directory.number mid.directory) own)) in
    declined g.D.Directory t c.args.self.now mid (cancel time id) NoSuchOrder c.requires brought lawful (cancel_none time id (book_of t mid) none)

pub returns : goal.returns
returns g c =
    let t = g.T.Tape in
    let time = c.args.time in
    let id = c.args.id.now in
    let mid = c.advance.new.self in
    let own : c.as_bytes.result.now ≡ id = c.as_bytes.ensures ∙ name g (goal.at.returns g c).In_ok-identifier in
    let lawful = lawfully id c.in_ok-identifier.identifier (name g (goal.at.returns g c).In_ok-identifier) in
    let brought = c.in_ok-advance.ensures in
    let m = market_of t mid.market in
    let found =
    found_some id (vec_items mid.market.table.rows) c.in-Some.number brought.rests mid.market.table.ascending (sym (brought.tied.known id) ∙ sym (c.in-Some.ensures ∙ ap (g.D.Directory.number mid.directory) own))
    in
    let so = cancel_some time id (book_of t mid) found.order found.names in
    carried_on g.D.Directory t c.args.self.now mid c.take_out.new.self (cancel time id) (cancelled c.take_out.result) c.requires brought lawful
    (ap cancelled (c.take_out.ensures.shares ∙ ap left_of found.rests) ∙ sym (ap (λ (o : Outcome). o.answer) so))
    (same_book (c.take_out.ensures.market ∙ ap (λ n. with_orders (without n m.orders) m) (sym found.number)) (c.take_out.ensures.clock ∙ brought.clock) c.take_out.ensures.entries
    ∙ sym (ap (λ (o : Outcome). o.book) so))
    c.take_out.ensures.tidied
