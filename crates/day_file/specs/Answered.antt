-- What a command makes of the book that answers it.
use Rattle.std.specs.Prelude.{ℕ, List, Ok, Err}
use Rattle.terms.specs.declared.ticket.Draft.{Draft}
use Rattle.terms.specs.Judging.{quote_from, ticket_from}
use Rattle.rules.specs.Calls.{entry, cancel, quote, tick}
use Rattle.book.specs.Running.{Running, after}
use Rattle.day_file.specs.declared.command.Command.{Command}
use Rattle.day_file.specs.declared.command.Command.TheVariants as command

-- an entry, if the ticket is lawful
abbrev pub after_entry : Running → ℕ → List ℕ → Draft → Running
after_entry before time id draft = elim (ticket_from draft) [ Err why ↦ before | Ok terms ↦ after before (entry time id terms) ]

-- a quote, if it is lawful
abbrev pub after_quote : Running → ℕ → ℕ → ℕ → Running
after_quote before time bid offer = elim (quote_from bid offer) [ Err why ↦ before | Ok prices ↦ after before (quote time bid offer) ]

-- a question changes nothing, and the other commands are not answered here
abbrev pub after_command : Running → Command → Running
after_command before (command.Book bid offer lines) = before
after_command before (command.Entry time id draft) = after_entry before time id.now draft
after_command before (command.Cancel time id) = after before (cancel time id.now)
after_command before (command.Quote time bid offer) = after_quote before time bid offer
after_command before (command.Tick time) = after before (tick time)
after_command before (command.Ask side place) = before
after_command before (command.Why id) = before
after_command before (command.Load time file) = before
after_command before (command.Write file) = before
after_command before command.Close = before
