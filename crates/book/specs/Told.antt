-- Calls and answers as the rule book's.
use Rattle.std.specs.Prelude.{List, map, Ok, Err, Result, vec_items}
use Rattle.terms.specs.Made.{ticket_terms}
use Rattle.rules.specs.declared.refusal.Refusal.{Refusal}
use Rattle.rules.specs.Calls.{Call as RuleCall, entry, cancel, quote, tick}
use Rattle.rules.specs.Answers.{Answer as RuleAnswer, entered, cancelled, quoted, ticked, refused}
use Rattle.book.specs.declared.call.Call.{Call}
use Rattle.book.specs.declared.call.Call.TheVariants.{Entry, Cancel, Quote, Tick}
use Rattle.book.specs.declared.call.Answer.{Answer}
use Rattle.book.specs.declared.call.Answer.TheVariants.{Entered, Cancelled, Quoted, Ticked, Refused}

abbrev pub call_of : Call → RuleCall
call_of (Entry time id ticket) = entry time (vec_items id) (ticket_terms ticket)
call_of (Cancel time id) = cancel time (vec_items id)
call_of (Quote time prices) = quote time prices.bid prices.offer
call_of (Tick time) = tick time

abbrev pub calls_of : List Call → List RuleCall
calls_of calls = map call_of calls

abbrev pub answer_of : Answer → RuleAnswer
answer_of (Entered number traded lapsed) = entered number traded lapsed
answer_of (Cancelled shares) = cancelled shares
answer_of Quoted = quoted
answer_of Ticked = ticked
answer_of (Refused why) = refused why

-- the answer of a call that may be refused
abbrev pub told_of : Result Answer Refusal → RuleAnswer
told_of (Ok answer) = answer_of answer
told_of (Err why) = refused why

abbrev pub answers_of : List Answer → List RuleAnswer
answers_of answers = map answer_of answers
