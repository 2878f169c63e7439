-- Each order of a book is listed as a lawful ticket, since the book was reached by a run. Cite tickets_again.
use Rattle.std.proofs.Common.{◌≡◌, ◌≤◌, List, [], ◌∷◌, map, sym, subst}
use Rattle.std.specs.List.{AllByRecursion as Every}
use Rattle.rules.specs.Limits.{fewest_left}
use Rattle.rules.specs.Market.{Order, Book as RuleBook}
use Rattle.rules.proofs.Numbers.{shares_remain}
use Rattle.market.specs.declared.table.Row.{Row}
use Rattle.market.specs.Rows.{row_order}
use Rattle.book.specs.Running.{Running, Reached}
use Rattle.register.proofs.Tickets.{ticket_back}
use Rattle.book_register.specs.Written.{ReadsAsTicket}

-- some shares are left of an order, and no more than its ticket says
abbrev Remains : Order → Type 0
Remains o = (o.left ≤ o.terms.shares) × (fewest_left ≤ o.terms.shares → fewest_left ≤ o.left)

rows_again : (rs : List Row) → Every Remains (map row_order rs) → Every ReadsAsTicket (map row_order rs)
rows_again [] h = tt
rows_again (r ∷ rs) h = (ticket_back r.terms r.left (h.0.1 r.terms.shares_lawful.0) h.0.0, rows_again rs h.1)

pub tickets_again : (s : Running) (rs : List Row) → map row_order rs ≡ s.book.market.orders → Reached s → Every ReadsAsTicket s.book.market.orders
tickets_again s rs rows r =
    let remain : Every Remains s.book.market.orders =
    subst (λ (z : RuleBook). Every Remains z.market.orders) (sym r.is) (shares_remain r.bid r.offer s.room r.calls)
    in
    subst (λ os. Every ReadsAsTicket os) rows (rows_again rs (subst (λ os. Every Remains os) (sym rows) remain))
