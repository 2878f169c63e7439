-- A book in bytes: the orders that rest in it, by ascending entry number, each with its shares left.
use Rattle.std.specs.Prelude.{◌≡◌, ℕ, List, map, take, Ok, Result, MatchResult}
use Rattle.std.specs.List.{AllByRecursion as Every}
use Rattle.terms.specs.Judging.{ticket_from}
use Rattle.register.specs.Layout.{Listed}
use Rattle.rules.specs.Market.{Order, Book}
use Rattle.register.specs.declared.writer.NoRoom.{NoRoom}
use Rattle.register.specs.Filling.{fresh, room, orders_fit, whole_orders, with_orders}
use Rattle.register.specs.Orders.{order_of}
use Rattle.register.specs.Refusal.{mark_if}
use Rattle.register.specs.RoundTrip.{ReadsAs, with_left}

abbrev pub listed_order : Order → Listed
listed_order order = order_of order.identifier order.terms order.left

abbrev pub orders_listed : Book → List Listed
orders_listed book = map listed_order book.market.orders

-- the listed order is a lawful ticket again, with the order's terms and the shares that are left
abbrev pub ReadsAsTicket : Order → Type 0
ReadsAsTicket order = ticket_from (listed_order order).draft ≡ Ok (with_left order.terms order.left)

-- A book written into a buffer: the whole orders that fit, then the fields that fit of the next one, then what was there. What is
-- told written reads back as the orders of the book; where one does not fit, as those before it.
pub record Written (book : Book) (before after : List ℕ) (result : Result ℕ NoRoom) : Type 0 where
  pub bytes : after ≡ (with_orders (fresh before) (orders_listed book)).bytes
  pub outcome : result ≡ mark_if (orders_fit (room (fresh before)) (orders_listed book)) (with_orders (fresh before) (orders_listed book)).mark
  pub reads_back : MatchResult result
      (λ mark. ReadsAs mark (take mark after) (orders_listed book))
      (λ refused. ReadsAs refused.place (take refused.place after) (whole_orders (room (fresh before)) (orders_listed book)))
  pub tickets : Every ReadsAsTicket book.market.orders
