use Rattle.std.proofs.Common.{◌≡◌, drop}
use Rattle.register.specs.Writers.{lender, page_of}
use Rattle.book_register.proofs.OrdersWritten.{SoWritten, rows_listed}
use Rattle.book_register.proofs.write.write_book.Given as goal

-- the rows from the index on are left to write
abbrev pub invariant-loop-row : goal.invariant-loop-row
invariant-loop-row g l =
    (lender l.writer ≡ lender l.initial.writer)
    × SoWritten (page_of l.initial.writer) (page_of l.writer) (rows_listed l.row-items) (rows_listed (drop l.row-index l.row-items))
