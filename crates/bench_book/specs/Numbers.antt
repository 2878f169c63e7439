-- Calls and answers as numbers: what comes in, what it asks of the rule book, and what is told.
use Rattle.std.specs.Prelude.{◌≡◌, ℕ, List, [], ◌∷◌, ◌++◌, length, take, Ok, Err, Result, ◌==◌, min, if◌then◌else◌}
use Rattle.std.specs.List.{fold}
use Rattle.terms.specs.declared.refusal.Refusal.{Refusal}
use Rattle.terms.specs.declared.ticket.Draft.{Draft}
use Rattle.terms.specs.Terms.{OrderTerms}
use Rattle.terms.specs.Judging.{ticket_from, quote_from}
use Rattle.terms.specs.Codes.{refusal_number}
use Rattle.rules.specs.Codes.{Told as RuleTold}
use Rattle.rules.specs.Calls.{Call, entry, cancel, quote, tick}
use Rattle.book.specs.Running.{Running, after, new_on, told_of}
use Rattle.bench_book.specs.declared.asked.Asked.{Asked}
use Rattle.bench_book.specs.declared.told.Told.{Told}

abbrev pub draft_of : Asked → Draft
draft_of asked =
    record {
      side = asked.side;
      kind = asked.kind;
      time_in_force = asked.time_in_force;
      qdp = asked.qdp;
      shares = asked.shares;
      limit = asked.limit;
      offset = asked.offset;
    }

-- the identifier's bytes, at most twenty
abbrev pub identifier_of : Asked → List ℕ
identifier_of asked = take (min asked.id_len 20) asked.id

-- an answer in numbers, with zeros where it has fewer than three values
abbrev pub in_numbers : RuleTold → Told
in_numbers told = record { number = told.number; values = take 3 (told.values ++ (0 ∷ (0 ∷ (0 ∷ [])))) }

-- a refusal, with no values
abbrev pub refused_by : ℕ → Told
refused_by number = record { number = number; values = 0 ∷ (0 ∷ (0 ∷ [])) }

-- the refusal of numbers that are no kind of call
abbrev pub unknown : ℕ
unknown = 255

abbrev pub entry_from : ℕ → List ℕ → Result OrderTerms Refusal → Result Call ℕ
entry_from time identifier (Ok terms) = Ok (entry time identifier terms)
entry_from time identifier (Err why) = Err (refusal_number why)

abbrev pub quoted_from : ℕ → Result (ℕ × ℕ) Refusal → Result Call ℕ
quoted_from time (Ok prices) = Ok (quote time prices.0 prices.1)
quoted_from time (Err why) = Err (refusal_number why)

-- the call that the numbers make, or the number by which they are refused
abbrev pub call_from : Asked → Result Call ℕ
call_from asked =
    if asked.what == 1 then entry_from asked.time (identifier_of asked) (ticket_from (draft_of asked))
    else if asked.what == 2 then Ok (cancel asked.time (identifier_of asked))
    else if asked.what == 3 then quoted_from asked.time (quote_from asked.bid asked.offer)
    else if asked.what == 4 then Ok (tick asked.time)
    else Err unknown

-- what is told of it, and the book after it: numbers that make no call leave the book as it is
abbrev pub told_by : Running → Result Call ℕ → Told
told_by state (Ok made) = in_numbers (told_of state made)
told_by state (Err number) = refused_by number

abbrev pub left_by : Running → Result Call ℕ → Running
left_by state (Ok made) = after state made
left_by state (Err number) = state

-- calls made one after another: what was told so far, and the book after them
pub record Made : Type 0 where
  pub answers : List Told
  pub state : Running

abbrev pub made : List Told → Running → Made
made answers state = record { answers = answers; state = state }

abbrev pub one_more : Made → Asked → Made
one_more so_far asked =
    made (so_far.answers ++ (told_by so_far.state (call_from asked) ∷ [])) (left_by so_far.state (call_from asked))

abbrev pub all_made : Running → List Asked → Made
all_made state calls = fold one_more (made [] state) calls

-- so many of the calls were made, in their order, and their answers stand in the first places
abbrev pub MadeFirst : ℕ → Running → Running → List Asked → List Told → Type 0
MadeFirst count before later calls written = made (take count written) later ≡ all_made before (take count calls)

-- the calls were made on a new book at the quote, whose tape had room for so many lines: their answers stand in the first places,
-- and so many lines were written
pub record Ran (room bid offer : ℕ) (calls : List Asked) (written : List Told) (lines : ℕ) : Type 0 where
  pub answers : take (length calls) written ≡ (all_made (new_on room bid offer) calls).answers
  pub counted : lines ≡ length (all_made (new_on room bid offer) calls).state.book.market.tape

-- told in the place of a count of lines where no book was opened
abbrev pub no_book : ℕ
no_book = 18446744073709551615
