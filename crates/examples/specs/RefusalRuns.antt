-- Worked examples of the refusals, each with what it leaves. The words are those of Examples.
use Rattle.std.specs.Prelude.{ℕ, zero, suc, ◌+◌, ◌-◌, List, [], ◌∷◌, ◌++◌, replicate, negsuc}
use Rattle.terms.specs.declared.kind.Kind.TheVariants.{DisplayedLimit}
use Rattle.terms.specs.declared.side.Side.TheVariants.{Sell}
use Rattle.terms.specs.declared.time_in_force.TimeInForce.TheVariants.{Rest}
use Rattle.tape.specs.declared.line.Mark.TheVariants.{BidDepleted, Nothing}
use Rattle.rules.specs.declared.refusal.Refusal.TheVariants.{Identifier, Time, TapeShort, NameTaken, NoSuchOrder, BookFull, EntriesSpent}
use Rattle.rules.specs.Answers.{Answer, entered, refused, ticked, cancelled}
use Rattle.rules.specs.Calls.{Call, entry, cancel, tick, quote}
use Rattle.examples.specs.Examples.{displayed_buy, Example, noon, letter, sell_at, buy_at, depleted, midpoint_sell, line, plain}
use Rattle.rules.specs.Limits.{most_entries}
use Rattle.rules.specs.Market.{Book}
use Rattle.rules.specs.Runs.{opened}

-- so many entries of one share each, with identifiers of two bytes
abbrev pub entries_of : ℕ → List Call
entries_of zero = []
entries_of (suc count) = entry 0 ((33 + count) ∷ 65 ∷ []) (displayed_buy 1) ∷ entries_of count

abbrev pub accepted_from : ℕ → ℕ → List Answer
accepted_from first zero = []
accepted_from first (suc count) = entered first 0 0 ∷ accepted_from (first + 1) count

-- a book at 1000 by 1001 in which all entries but so many are spent
abbrev pub spent_but : ℕ → Book
spent_but left = record (opened 1000 1001) { entries = most_entries - left }

abbrev pub told_of_refusals : List Example
told_of_refusals =
    -- twenty bytes pass as a name; twenty-one, none, a blank and byte 127 do not; the clock is where it was
    record {
      book = opened 1000 1001;
      room = 64;
      calls =
          entry 4 (33 ∷ 126 ∷ replicate 18 65) (displayed_buy 1)
          ∷ entry 9 (replicate 21 65) (displayed_buy 1)
          ∷ entry 9 [] (displayed_buy 1)
          ∷ cancel 9 (65 ∷ 32 ∷ [])
          ∷ cancel 9 (127 ∷ [])
          ∷ tick 4
          ∷ [];
      answers =
          entered 1 0 0 ∷ refused Identifier ∷ refused Identifier ∷ refused Identifier ∷ refused Identifier ∷ ticked ∷ [];
      tape = [];
    }
    -- times that have gone by, and one after the last moment; the clock's own time passes; an unlawful identifier is told first
    ∷ record {
      book = opened 1000 1001;
      room = 64;
      calls =
          tick noon
          ∷ entry 86400000000 (letter 1) (displayed_buy 1)
          ∷ entry 42 (letter 1) (displayed_buy 1)
          ∷ quote 42 1000 1002
          ∷ cancel 42 []
          ∷ entry noon (letter 1) (displayed_buy 1)
          ∷ tick 86399999999
          ∷ [];
      answers = ticked ∷ refused Time ∷ refused Time ∷ refused Time ∷ refused Identifier ∷ entered 1 0 0 ∷ ticked ∷ [];
      tape = [];
    }
    -- one free line and two orders that rest: any call is refused; as many are enough; identifier and time are told first
    ∷ record {
      book = opened 1000 1001;
      room = 1;
      calls =
          entry 0 (letter 1) (displayed_buy 1)
          ∷ entry 0 (letter 2) (displayed_buy 1)
          ∷ tick 7
          ∷ cancel 7 (letter 1)
          ∷ quote 7 1000 1002
          ∷ entry 7 (letter 3) (sell_at 1 1000)
          ∷ entry 7 [] (displayed_buy 1)
          ∷ tick 86400000000
          ∷ [];
      answers =
          entered 1 0 0 ∷ entered 2 0 0 ∷ refused TapeShort ∷ refused TapeShort ∷ refused TapeShort ∷ refused TapeShort ∷ refused Identifier ∷ refused Time ∷ [];
      tape = [];
    }
    -- a name that is taken: refused, and the clock is at the entry's time, the period ended and its line written; then the name is free
    ∷ record {
      book = opened 1000 1001;
      room = 64;
      calls =
          depleted (negsuc 0) 100
          ++ (entry (noon + 1000) (letter 4) (midpoint_sell Rest 200)
          ∷ entry (noon + 1999) (letter 4) (sell_at 1 1000)
          ∷ tick (noon + 1998)
          ∷ entry (noon + 2000) (letter 2) (displayed_buy 1)
          ∷ cancel (noon + 2000) (letter 2)
          ∷ []);
      answers =
          entered 1 0 0 ∷ entered 2 0 0 ∷ entered 3 100 0 ∷ entered 4 0 0 ∷ refused NameTaken ∷ refused Time ∷ entered 5 0 0 ∷ cancelled 1 ∷ [];
      tape = line noon 1 3 100 2000 BidDepleted ∷ line (noon + 2000) 4 2 200 2001 Nothing ∷ [];
    }
    -- a cancel that names nothing, since the order left as the clock came to its time: the line is written
    ∷ record {
      book = opened 1000 1001;
      room = 64;
      calls =
          depleted (negsuc 0) 100
          ++ (entry (noon + 1000) (letter 4) (midpoint_sell Rest 100) ∷ cancel (noon + 2000) (letter 4) ∷ tick (noon + 1999) ∷ cancel (noon + 2000) (letter 2) ∷ []);
      answers =
          entered 1 0 0 ∷ entered 2 0 0 ∷ entered 3 100 0 ∷ entered 4 0 0 ∷ refused NoSuchOrder ∷ refused Time ∷ cancelled 100 ∷ [];
      tape = line noon 1 3 100 2000 BidDepleted ∷ line (noon + 2000) 4 2 100 2001 Nothing ∷ [];
    }
    -- 64 orders rest: no other may be entered to rest, also not one that would trade at once, but an IOC may
    ∷ record {
      book = opened 1000 1001;
      room = 64;
      calls =
          entries_of 64
          ++ (entry 8 (letter 0) (displayed_buy 1)
          ∷ tick 7
          ∷ entry 8 (letter 0) (plain Sell DisplayedLimit Rest 1 1000)
          ∷ entry 8 (33 ∷ 65 ∷ []) (displayed_buy 1)
          ∷ entry 8 (letter 0) (buy_at 1 1000)
          ∷ cancel 8 (33 ∷ 65 ∷ [])
          ∷ entry 8 (letter 0) (displayed_buy 1)
          ∷ []);
      answers =
          accepted_from 1 64
          ++ (refused BookFull
          ∷ refused Time
          ∷ refused BookFull
          ∷ refused NameTaken
          ∷ entered 65 0 1
          ∷ cancelled 1
          ∷ entered 66 0 0
          ∷ []);
      tape = [];
    }
    -- the book full and the entries spent: the former is told first, and an IOC is told the latter
    ∷ record {
      book = spent_but 64;
      room = 64;
      calls = entries_of 64 ++ (entry 8 (letter 0) (displayed_buy 1) ∷ entry 8 (letter 0) (sell_at 1 1000) ∷ []);
      answers = accepted_from 999937 64 ++ (refused BookFull ∷ refused EntriesSpent ∷ []);
      tape = [];
    }
    -- the last entry of the day, and one too many; a taken name is told first, and a longer name is another
    ∷ record {
      book = spent_but 1;
      room = 64;
      calls =
          entry 6 (letter 1) (displayed_buy 1)
          ∷ entry 7 (letter 2) (displayed_buy 1)
          ∷ tick 6
          ∷ entry 8 (letter 1) (displayed_buy 1)
          ∷ cancel 8 (65 ∷ 65 ∷ [])
          ∷ cancel 8 (letter 1)
          ∷ entry 9 (letter 1) (sell_at 1 1000)
          ∷ [];
      answers =
          entered 1000000 0 0
          ∷ refused EntriesSpent
          ∷ refused Time
          ∷ refused NameTaken
          ∷ refused NoSuchOrder
          ∷ cancelled 1
          ∷ refused EntriesSpent
          ∷ [];
      tape = [];
    }
    ∷ []
