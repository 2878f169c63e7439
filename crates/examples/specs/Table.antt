-- Worked examples but those of questions, as one table: a question to the definitions, and its answer. Prices, bounds of tickets and identifiers, and
-- a register read; orders written into a buffer; whole runs of the rule book.
use Rattle.std.specs.Prelude.{ℕ, ◌≡◌, List, ◌++◌, map}
use Rattle.tape.specs.declared.line.Line.{Line}
use Rattle.rules.specs.Market.{Book}
use Rattle.rules.specs.Answers.{Answer as CallAnswer}
use Rattle.rules.specs.Calls.{Call}
use Rattle.rules.specs.Runs.{Run, run}
use Rattle.examples.specs.Examples.{Example, told_with_the_rules}
use Rattle.examples.specs.PriorityRuns.{told_of_priority}
use Rattle.examples.specs.RefusalRuns.{told_of_refusals}
use Rattle.register.specs.Examples as read
use Rattle.register.specs.WritingExamples as written

-- a run: a book, the room of its tape, and calls
pub data Question : Type 0 where
  of_an_order : read.Question → Question
  of_a_buffer : written.Question → Question
  of_a_run : Book → ℕ → List Call → Question

-- of a run: what the calls answer, and the lines that the tape then has
pub data Answer : Type 0 where
  told : read.Answer → Answer
  left : written.Answer → Answer
  ran : List CallAnswer → List Line → Answer

abbrev pub run_answer : Run → Answer
run_answer made = ran made.answers made.book.market.tape

abbrev pub answer_to : Question → Answer
answer_to (of_an_order question) = told (read.answer_to question)
answer_to (of_a_buffer question) = left (written.answer_to question)
answer_to (of_a_run book room calls) = run_answer (run room calls book)

abbrev pub a_run : Example → Question × Answer
a_run example = (of_a_run example.book example.room example.calls, ran example.answers example.tape)

abbrev pub examples : List (Question × Answer)
examples =
    map (λ example. (of_an_order example.0, told example.1)) read.examples
    ++ (map (λ example. (of_a_buffer example.0, left example.1)) written.examples
    ++ (map a_run told_with_the_rules ++ (map a_run told_of_priority ++ map a_run told_of_refusals)))

-- every answer is as told
abbrev pub ExamplesAsTold : Type 0
ExamplesAsTold = map (λ example. answer_to example.0) examples ≡ map (λ example. example.1) examples
