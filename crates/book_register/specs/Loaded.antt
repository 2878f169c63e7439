-- What a load promises: answer, slips and book are those of the definition, the book is the rule book's after the entries
-- made, and the law of loads holds.
use Rattle.std.specs.Prelude.{◌≡◌, ℕ, ◌+◌, List, ◌++◌, length, take, drop, Some, None, Ok, Err, Option, Result}
use Rattle.roll.specs.declared.Roll.{Roll}
use Rattle.roll.specs.Rolls.{records, room_left, places, lender}
use Rattle.register.specs.Layout.{Listed}
use Rattle.rules.specs.Runs.{run}
use Rattle.book.specs.Running.{Running}
use Rattle.book_register.specs.declared.load.LoadFault.{LoadFault}
use Rattle.book_register.specs.declared.load.Slip.{Slip}
use Rattle.book_register.specs.declared.load.Loaded.{Loaded}
use Rattle.book_register.specs.Loads.{Attempt, Ended, attempt, load_of, load_answer}
use Rattle.book_register.specs.Law.{LawfulLoad}

abbrev pub fault_of : Result (Unit {0}) LoadFault → Option LoadFault
fault_of (Ok done) = None
fault_of (Err fault) = Some fault

-- one order, at its place
abbrev pub attempt_at : Running → ℕ → ℕ → Listed → Attempt
attempt_at before time place order = attempt time before.room place order before.book

pub record Attempted (before after : Running) (time place : ℕ) (order : Listed) (result : Result (Unit {0}) LoadFault) : Type 0 where
  pub fault : fault_of result ≡ (attempt_at before time place order).fault
  pub book : after.book ≡ (attempt_at before time place order).book
  pub capacity : after.room ≡ before.room

-- a whole register, with what is free on the roll for its slips
abbrev pub load_into : Running → Roll Slip → ℕ → List ℕ → Ended
load_into before roll time register = load_of time before.room (room_left roll) register before.book

-- slips over those of a list from a place on, and no others
abbrev pub written_from : List Slip → ℕ → List Slip → List Slip
written_from before place slips = take place before ++ (slips ++ drop (place + length slips) before)

-- what becomes of the roll: the slips stand on it after those before, in the lender's slice from the first free place on
pub record SlipsAdded (before after : Roll Slip) (slips : List Slip) : Type 0 where
  pub added : records after ≡ records before ++ slips
  pub free : room_left after + length slips ≡ room_left before
  pub lent : lender after ≡ lender before
  pub written : places after ≡ written_from (places before) (length (records before)) slips

pub record LoadedInto (before after : Running) (roll roll_after : Roll Slip) (time : ℕ) (register : List ℕ) (result : Result Loaded LoadFault) : Type 0 where
  pub answer : result ≡ load_answer (load_into before roll time register).stop (load_into before roll time register).load
  pub ran : after.book ≡ (run before.room (load_into before roll time register).load.calls before.book).book
  pub capacity : after.room ≡ before.room
  pub slips : SlipsAdded roll roll_after (load_into before roll time register).load.slips
  pub lawful : LawfulLoad time before.room (room_left roll) register before.book (load_into before roll time register)
