-- Worked examples of writing, as one table: an order and a buffer, and what becomes of them.
use Rattle.std.specs.Prelude.{◌≡◌, ℕ, List, [], ◌∷◌, ◌++◌, map, take, replicate, ℤ, pos, negsuc, Ok, Err, codes, Result}
use Rattle.register.specs.Layout.{Listed}
use Rattle.register.specs.Examples.{buy_mdo, bytes_of_A1}
use Rattle.register.specs.declared.writer.NoRoom.{NoRoom}
use Rattle.register.specs.Filling.{Page, fresh, room, order_fits, with_order}
use Rattle.register.specs.Refusal.{done_if}

pub record Question : Type 0 where
  pub page : Page
  pub order : Listed

pub record Answer : Type 0 where
  pub outcome : Result (Unit {0}) NoRoom
  pub page : Page

abbrev pub answer_to : Question → Answer
answer_to q =
    record { outcome = done_if (order_fits (room q.page) q.order) q.page.mark; page = with_order q.page q.order }

-- so many bytes of which nothing is written, each 170
abbrev pub unwritten : ℕ → Page
unwritten n = fresh (replicate n 170)

-- the order A1: the terms of `buy_mdo`, at an offset of z cents
abbrev pub A1 : ℤ → Listed
A1 z = record { identifier = codes "A1"; draft = buy_mdo z }

abbrev pub examples : List (Question × Answer)
examples =
    (record { page = unwritten 31; order = A1 (negsuc 0) }, record { outcome = Ok tt; page = record { bytes = bytes_of_A1; mark = 31 } })
    ∷ ((record { page = unwritten 30; order = A1 (negsuc 0) }, record { outcome = Err (record { place = 0 }); page = record { bytes = take 26 bytes_of_A1 ++ replicate 4 170; mark = 0 } })
    ∷ ((record { page = unwritten 30; order = A1 (pos 0) }, record { outcome = Ok tt; page = record { bytes = take 26 bytes_of_A1 ++ replicate 4 170; mark = 26 } })
    ∷ ((record { page = unwritten 4; order = A1 (pos 0) }, record { outcome = Err (record { place = 0 }); page = unwritten 4 })
    ∷ [])))

abbrev pub ExamplesAsTold : Type 0
ExamplesAsTold = map (λ x. answer_to x.0) examples ≡ map (λ x. x.1) examples
