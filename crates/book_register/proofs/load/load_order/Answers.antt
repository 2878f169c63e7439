use Rattle.std.proofs.Common.{rules}
use Rattle.std.proofs.lemmas.Result.{err_from_is_err_and}
use Rattle.terms.specs.Made.{ticket_terms}
use Rattle.register.specs.Parts.{listed_of}
use Rattle.book_register.proofs.Attempts.{ticketed, refused_so}
use Rattle.book_register.proofs.load.load_order.Goals as goal

pub returns-in_err-map_err : goal.returns-in_err-map_err
returns-in_err-map_err g c =
    let told = refused_so c.args.order.now.place c.in_err-map_err.field-0.0 c.enter.result _ c.in_err-map_err.ensures.cases (λ e h. search rules) in
    let p = err_from_is_err_and c.from_residual-in_err-map_err.result c.from_residual-in_err-map_err.ensures.1 in
    rw (p.1, p.2) (ticketed c.args.time c.args.order.now.place (listed_of c.args.order.now) c.args.book.now c.enter.new.self (ticket_terms c.in_ok-ticket.ticket)
    _ _ c.in_ok-ticket.ensures told c.enter.ensures.answer c.enter.ensures.book)
