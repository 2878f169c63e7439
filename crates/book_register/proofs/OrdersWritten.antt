-- Orders of a book, written one after another: what is left to write comes to the same as writing them all. Cite row_next
-- and written_more in a turn, written_all and written_half at the end, then book_written.
use Rattle.std.proofs.Common.{◌≡◌, ℕ, ◌+◌, ◌<◌, List, [], ◌∷◌, ◌++◌, map, length, get_or, drop, Ok, Err, Result, sym, ap, ◌∙◌, subst, append-nil}
use Rattle.std.specs.List.{AllByRecursion as Every}
use Rattle.std.proofs.lemmas.List.{at_drop_more}
use Rattle.register.specs.Layout.{Listed}
use Rattle.market.specs.declared.table.Row.{Row}
use Rattle.market.specs.Rows.{row_order}
use Rattle.rules.specs.Market.{Book}
use Rattle.register.specs.declared.writer.NoRoom.{NoRoom}
use Rattle.register.specs.Filling.{Page, fresh, room, order_fits, orders_fit, whole_orders, with_order, with_orders}
use Rattle.register.specs.Refusal.{done_if, mark_if}
use Rattle.register.specs.RoundTrip.{Holds}
use Rattle.register.proofs.Fields.{passed, failed}
use Rattle.register.proofs.Holding.{wholes_more, wholes_stop, answer_reads}
use Rattle.register.proofs.Several.{nothing_more, one_more, one_fits, half_left, none_fits, mark_back, refused_told}
use Rattle.book_register.specs.Written.{listed_order, orders_listed, ReadsAsTicket, Written}

-- all orders are `os`, and `left` are left to write
pub record SoWritten (start p : Page) (os left : List Listed) : Type 0 where
  pub same : with_orders start os ≡ with_orders p left
  pub fit : orders_fit (room start) os ≡ orders_fit (room p) left
  pub so_far : List Listed
  pub holds : Holds p so_far
  pub wholes : whole_orders (room start) os ≡ so_far ++ whole_orders (room p) left

-- the writing is over
pub record AllWritten (start p : Page) (os : List Listed) (r : Result ℕ NoRoom) : Type 0 where
  pub page : p ≡ with_orders start os
  pub outcome : r ≡ mark_if (orders_fit (room start) os) p.mark
  pub holds : Holds p (whole_orders (room start) os)

module _ (start p : Page) (os : List Listed) where
  pub written_all : SoWritten start p os [] → (mark : ℕ) → mark ≡ p.mark → AllWritten start p os (Ok mark)
  written_all s mark e =
      record {
        page = sym (s.same ∙ nothing_more p);
        outcome = ap Ok e ∙ ap (λ b. mark_if b p.mark) (sym s.fit);
        holds = subst (λ (z : List Listed). Holds p z) (sym (s.wholes ∙ append-nil s.so_far)) s.holds;
      }

  -- an order was put at the mark
  module _ (o : Listed) (rest : List Listed) (s : SoWritten start p os (o ∷ rest)) (q : Page) (put : q ≡ with_order p o)
      (back : (ds : List Listed) → Holds p ds → Holds q (ds ++ whole_orders (room p) (o ∷ []))) where
    pub written_more : Ok tt ≡ done_if (order_fits (room p) o) p.mark → SoWritten start q os rest
    written_more done =
        let fits = passed (order_fits (room p) o) p.mark done in
        record {
          same = s.same ∙ one_more p o rest fits ∙ ap (λ z. with_orders z rest) (sym put);
          fit = s.fit ∙ one_fits p o rest fits ∙ ap (λ (z : Page). orders_fit (room z) rest) (sym put);
          so_far = s.so_far ++ whole_orders (room p) (o ∷ []);
          holds = back s.so_far s.holds;
          wholes =
              s.wholes
              ∙ wholes_more p o rest s.so_far fits
              ∙ ap (λ (z : Page). (s.so_far ++ whole_orders (room p) (o ∷ [])) ++ whole_orders (room z) rest) (sym put);
        }

    pub written_half : (x : NoRoom) → Err x ≡ done_if (order_fits (room p) o) p.mark → AllWritten start q os (Err x)
    written_half x refused =
        let fails = failed (order_fits (room p) o) p.mark x refused in
        let wholes = s.wholes ∙ ap (λ z. s.so_far ++ z) (wholes_stop p o rest fails) in
        record {
          page = put ∙ sym (s.same ∙ half_left p o rest fails);
          outcome =
              refused_told (order_fits (room p) o) (orders_fit (room start) os) p.mark q.mark x refused (s.fit ∙ none_fits p o rest fails)
              (ap (λ (z : Page). z.mark) put ∙ mark_back p o rest fails);
          holds = subst (λ (z : List Listed). Holds q z) (sym wholes) (back s.so_far s.holds);
        }

-- rows, as a register lists their orders
abbrev pub rows_listed : List Row → List Listed
rows_listed rs = map listed_order (map row_order rs)

-- the row at i comes next
pub row_next : (start p : Page) (all : List Listed) (rs : List Row) (i : ℕ) (row : Row) (o : Listed) → i < length rs → row ≡ get_or rs i row → o ≡ listed_order (row_order row) → SoWritten start p all (rows_listed (drop i rs)) → SoWritten start p all (o ∷ rows_listed (drop (i + 1) rs))
row_next start p all rs i row o lt is own s =
    let rest = rows_listed (drop (i + 1) rs) in
    subst (λ z. SoWritten start p all z)
    (at_drop_more rows_listed rs i row lt ∙ ap (λ x. listed_order (row_order x) ∷ rest) (sym is) ∙ ap (λ x. x ∷ rest) (sym own)) s

-- `os` are the orders of the book
pub book_written : (b : Book) (before after : List ℕ) (start p : Page) (r : Result ℕ NoRoom) (os : List Listed) → os ≡ orders_listed b → start ≡ fresh before → after ≡ p.bytes → AllWritten start p os r → Every ReadsAsTicket b.market.orders → Written b before after r
book_written b before after start p r os own new lent s tickets =
    let all = orders_listed b in
    let done : AllWritten (fresh before) p all r = subst (λ z. AllWritten z p all r) new (subst (λ z. AllWritten start p z r) own s) in
    let outcome : r ≡ mark_if (orders_fit (room (fresh before)) all) p.mark = done.outcome in
    record {
      bytes = lent ∙ ap (λ (z : Page). z.bytes) done.page;
      outcome = outcome ∙ ap (λ (z : Page). mark_if (orders_fit (room (fresh before)) all) z.mark) done.page;
      reads_back = answer_reads (room (fresh before)) all p after r outcome lent done.holds;
      tickets = tickets;
    }
