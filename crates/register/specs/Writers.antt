-- What a writer has before it: its buffer, and how far it is written; and the guard over it.
use Rattle.std.specs.Prelude.{◌≡◌}
use Rattle.std.specs.Borrow.{GName}
use Rattle.register.specs.declared.begun.Begun.{Begun}
use Rattle.register.specs.declared.writer.Writer.{Writer}
use Rattle.register.specs.Filling.{Page}

abbrev pub page_of : Writer → Page
page_of writer = record { bytes = writer.buffer.now; mark = writer.fill.mark }

-- the name of the buffer's loan
abbrev pub lender : Writer → GName
lender writer = writer.buffer.ghost_name

-- the page of an order that is begun
abbrev pub begun_page : Begun → Page
begun_page order = record { bytes = order.buffer.now; mark = order.fill.now.mark }

-- the same buffer and mark, of an order that began at the same place
abbrev pub SameGuard : Begun → Begun → Type 0
SameGuard before after =
    (after.buffer.ghost_name ≡ before.buffer.ghost_name)
    × (after.fill.ghost_name ≡ before.fill.ghost_name)
    × (after.start ≡ before.start)
