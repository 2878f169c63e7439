use Rattle.std.proofs.Common.{◌≡◌, ◌+◌, map, length, drop, ap, ◌∙◌, subst, rules}
use Rattle.std.proofs.lemmas.List.{at_drop_all}
use Rattle.std.proofs.lemmas.Result.{err_from_is_err_and}
use Rattle.terms.specs.Made.{terms_of}
use Rattle.register.specs.Orders.{order_of}
use Rattle.register.specs.Writers.{lender, page_of}
use Rattle.book_register.specs.Written.{listed_order}
use Rattle.book_register.proofs.OrdersWritten.{SoWritten, written_more, written_all, written_half, rows_listed, row_next, book_written}
use Rattle.register.proofs.WriteBack.{writes_back}
use Rattle.book_register.proofs.Tickets.{tickets_again}
use Rattle.book_register.proofs.write.write_book.Goals as goal

pub loop-row-preserved : goal.loop-row-preserved
loop-row-preserved g c =
    let rs = c.resting_orders-row-items.result.now in
    let i = c.loop-row.row-index in
    let row = c.row-item.result in
    let start = page_of c.new-writer.result in
    let p = page_of c.loop-row.writer in
    let o = order_of c.as_bytes.result.now (terms_of row.terms) row.left in
    let next = row_next start p (rows_listed rs) rs i row o c.loop-row-test.true c.row-item.is (ap (λ id. order_of id (terms_of row.terms) row.left) c.as_bytes.ensures) c.loop-row.invariant.1 in (
      c.write_order.ensures.lent ∙ c.loop-row.invariant.0,
      written_more start p (rows_listed rs) o (rows_listed (drop (i + 1) rs)) next (page_of c.write_order.new.self) c.write_order.ensures.page c.write_order.ensures.reads_back
          c.in_ok-write_order.ensures.outcome,
    )

pub returns-in_err-write_order-clause-written : goal.returns-in_err-write_order-clause-written
returns-in_err-write_order-clause-written g c =
    let b = c.args.book.now.book in
    let rs = c.resting_orders-row-items.result.now in
    let i = c.loop-row.row-index in
    let row = c.row-item.result in
    let start = page_of c.new-writer.result in
    let p = page_of c.loop-row.writer in
    let q = page_of c.write_order.new.self in
    let o = order_of c.as_bytes.result.now (terms_of row.terms) row.left in
    let next = row_next start p (rows_listed rs) rs i row o c.loop-row-test.true c.row-item.is (ap (λ id. order_of id (terms_of row.terms) row.left) c.as_bytes.ensures) c.loop-row.invariant.1 in
    let e = err_from_is_err_and c.from_residual.result c.from_residual.ensures.1 in
    let lent : lender c.write_order.new.self ≡ lender c.new-writer.result = c.write_order.ensures.lent ∙ c.loop-row.invariant.0 in
    rw (e.1, e.2) (book_written b c.args.buffer.now _ start q _ (rows_listed rs) (ap (map listed_order) c.resting_orders-row-items.ensures.rows) c.new-writer.ensures.page (search rules)
    (written_half start p (rows_listed rs) o (rows_listed (drop (i + 1) rs)) next q c.write_order.ensures.page c.write_order.ensures.reads_back _ c.in_err-write_order.ensures.outcome)
    (tickets_again c.args.book.now rs c.resting_orders-row-items.ensures.rows c.resting_orders-row-items.ensures.reached))

pub returns-clause-written : goal.returns-clause-written
returns-clause-written g c =
    let b = c.args.book.now.book in
    let rs = c.resting_orders-row-items.result.now in
    let start = page_of c.new-writer.result in
    let p = page_of c.loop-row.writer in
    book_written b c.args.buffer.now _ start p _ (rows_listed rs) (ap (map listed_order) c.resting_orders-row-items.ensures.rows) c.new-writer.ensures.page (search rules)
    (written_all start p (rows_listed rs)
    (subst (λ z. SoWritten start p (rows_listed rs) z) (at_drop_all rows_listed rs c.loop-row.row-index c.loop-row-test.false) c.loop-row.invariant.1) c.mark.result c.mark.ensures)
    (tickets_again c.args.book.now rs c.resting_orders-row-items.ensures.rows c.resting_orders-row-items.ensures.reached)

pub returns-clause-again : goal.returns-clause-again
returns-clause-again g c = λ register orders bytes reads. writes_back (length register) orders register bytes reads

pub returns-in_err-write_order-clause-again : goal.returns-in_err-write_order-clause-again
returns-in_err-write_order-clause-again g c = λ register orders bytes reads. writes_back (length register) orders register bytes reads
