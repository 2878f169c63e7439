-- What a book is opened on.
use Rattle.std.specs.Prelude.{◌≡◌}
use Rattle.tape.specs.declared.tape.Tape.{Ghosts as TapeOf}
use Rattle.directory.specs.declared.directory.Directory.{Ghosts as DirectoryOf}
use Rattle.terms.specs.declared.quote.Quote.{Quote}
use Rattle.market.specs.Seen.{quote_of}
use Rattle.book.specs.declared.prepared.Prepared.{Prepared}

-- a book can be opened at the quote, on this directory and this tape, which are as they were
pub record PreparedOn {D T : Type 0} {directory_make : DirectoryOf D} {tape_make : TapeOf T} (quote : Quote) (directory : D) (tape : T) (prepared : Prepared D T directory_make tape_make) : Type 0 where
  pub same_directory : prepared.directory ≡ directory
  pub same_tape : prepared.tape ≡ tape
  pub at_quote : quote_of prepared.table ≡ quote
