-- What a desk has: the book that it answers for, in the rule book's words.
use Rattle.std.specs.Prelude.{ℕ, List}
use Rattle.rules.specs.Market.{Book}
use Rattle.rules.specs.Runs.{run}
use Rattle.book.specs.Running.{Running}
use Rattle.book_register.specs.Loads.{load_of}
use Rattle.day_file.specs.declared.desk.Desk.{Desk}

abbrev pub running_of : {D T : Type 0} → Desk D T → Running
running_of desk = desk.book

abbrev pub book_of : {D T : Type 0} → Desk D T → Book
book_of desk = (running_of desk).book

-- the book after the entries of a load that had so many places for slips
abbrev pub after_load : ℕ → Running → ℕ → List ℕ → Book
after_load places before time register =
    (run before.room (load_of time before.room places register before.book).load.calls before.book).book
