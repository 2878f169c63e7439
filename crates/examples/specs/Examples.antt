-- Worked examples, as tables: a book, the room of its tape, calls, what they answer, and the lines that the tape then has.
use Rattle.std.specs.Prelude.{◌≡◌, ℕ, ◌+◌, true, false, List, [], ◌∷◌, ◌++◌, map, ℤ, pos, negsuc, Some, None, Option}
use Rattle.terms.specs.declared.side.Side.{Side}
use Rattle.terms.specs.declared.side.Side.TheVariants.{Buy, Sell}
use Rattle.terms.specs.declared.kind.Kind.{Kind}
use Rattle.terms.specs.declared.kind.Kind.TheVariants.{DisplayedLimit, HiddenLimit, DisplayedMdo, HiddenMdo, MidpointPeg}
use Rattle.terms.specs.declared.time_in_force.TimeInForce.{TimeInForce}
use Rattle.terms.specs.declared.time_in_force.TimeInForce.TheVariants.{Rest, ImmediateOrCancel}
use Rattle.terms.specs.Terms.{OrderTerms}
use Rattle.tape.specs.declared.line.Line.{Line}
use Rattle.tape.specs.declared.line.Mark.{Mark}
use Rattle.tape.specs.declared.line.Mark.TheVariants.{Nothing, BidDepleted}
use Rattle.rules.specs.Market.{Market, Book}
use Rattle.rules.specs.Answers.{Answer, entered, ticked}
use Rattle.rules.specs.Calls.{Call, entry, quote, tick}
use Rattle.rules.specs.Questions.{Standing, asked, closing, Why, no_mdo, at_limit, at_midpoint, protected, discretion, why}
use Rattle.rules.specs.Runs.{opened, run}

pub record Example : Type 0 where
  pub book : Book
  pub room : ℕ
  pub calls : List Call
  pub answers : List Answer
  pub tape : List Line

-- Words for the tables

abbrev pub noon : ℕ
noon = 43200000000

-- an order without offset and QDP
abbrev pub plain : Side → Kind → TimeInForce → ℕ → ℕ → OrderTerms
plain side kind time_in_force shares limit =
    record {
      side = side;
      kind = kind;
      time_in_force = time_in_force;
      qdp = false;
      shares = shares;
      limit = limit;
      offset = pos 0;
    }

-- a displayed buy at 1000
abbrev pub displayed_buy : ℕ → OrderTerms
displayed_buy shares = plain Buy DisplayedLimit Rest shares 1000

-- an MDO of 200 shares without QDP
abbrev pub free_mdo : Side → Kind → ℕ → ℤ → OrderTerms
free_mdo side kind limit offset = record (plain side kind Rest 200 limit) { offset = offset }

-- a hidden MDO with QDP, of 200 shares
abbrev pub qdp_mdo : Side → ℕ → ℤ → OrderTerms
qdp_mdo side limit offset = record (free_mdo side HiddenMdo limit offset) { qdp = true }

abbrev pub sell_at : ℕ → ℕ → OrderTerms
sell_at shares limit = plain Sell DisplayedLimit ImmediateOrCancel shares limit

abbrev pub buy_at : ℕ → ℕ → OrderTerms
buy_at shares limit = plain Buy DisplayedLimit ImmediateOrCancel shares limit

abbrev pub midpoint_sell : TimeInForce → ℕ → OrderTerms
midpoint_sell time_in_force shares = plain Sell MidpointPeg time_in_force shares 1

abbrev pub line : ℕ → ℕ → ℕ → ℕ → ℕ → Mark → Line
line time partner taker shares price mark =
    record { time = time; partner = partner; taker = taker; shares = shares; price = price; mark = mark }

-- an identifier by its number: a letter
abbrev pub letter : ℕ → List ℕ
letter number = (64 + number) ∷ []

-- at midnight displayed_buy and qdp_mdo, at noon a sell that depletes the bid
abbrev pub depleted : ℤ → ℕ → List Call
depleted offset sold = entry 0 (letter 1) (displayed_buy 100) ∷ entry 0 (letter 2) (qdp_mdo Buy 1001 offset) ∷ entry noon (letter 3) (sell_at sold 1000) ∷ []

-- The rules' own examples, at 1000 by 1001

abbrev pub told_with_the_rules : List Example
told_with_the_rules =
    -- a single share depletes what is below a round lot then, and discretion is off a millisecond later
    record {
      book = opened 1000 1001;
      room = 64;
      calls = depleted (negsuc 2) 1 ++ (entry (noon + 1000) (letter 4) (midpoint_sell ImmediateOrCancel 100) ∷ []);
      answers = entered 1 0 0 ∷ entered 2 0 0 ∷ entered 3 1 0 ∷ entered 4 0 100 ∷ [];
      tape = line noon 1 3 1 2000 BidDepleted ∷ [];
    }
    -- the period ends at its own end, by a tick at that moment
    ∷ record {
      book = opened 1000 1001;
      room = 64;
      calls = depleted (negsuc 0) 100 ++ (entry (noon + 1000) (letter 4) (midpoint_sell Rest 100) ∷ tick (noon + 2000) ∷ []);
      answers = entered 1 0 0 ∷ entered 2 0 0 ∷ entered 3 100 0 ∷ entered 4 0 0 ∷ ticked ∷ [];
      tape = line noon 1 3 100 2000 BidDepleted ∷ line (noon + 2000) 4 2 100 2001 Nothing ∷ [];
    }
    -- or by a later one
    ∷ record {
      book = opened 1000 1001;
      room = 64;
      calls = depleted (negsuc 0) 100 ++ (entry (noon + 1000) (letter 4) (midpoint_sell Rest 100) ∷ tick (noon + 7000) ∷ []);
      answers = entered 1 0 0 ∷ entered 2 0 0 ∷ entered 3 100 0 ∷ entered 4 0 0 ∷ ticked ∷ [];
      tape = line noon 1 3 100 2000 BidDepleted ∷ line (noon + 2000) 4 2 100 2001 Nothing ∷ [];
    }
    -- a round lot left is no depletion
    ∷ record {
      book = opened 1000 1001;
      room = 64;
      calls = entry 0 (letter 1) (displayed_buy 200) ∷ entry noon (letter 2) (sell_at 100 1000) ∷ [];
      answers = entered 1 0 0 ∷ entered 2 100 0 ∷ [];
      tape = line noon 1 2 100 2000 Nothing ∷ [];
    }
    -- one share less is
    ∷ record {
      book = opened 1000 1001;
      room = 64;
      calls = entry 0 (letter 1) (displayed_buy 200) ∷ entry noon (letter 2) (sell_at 101 1000) ∷ [];
      answers = entered 1 0 0 ∷ entered 2 101 0 ∷ [];
      tape = line noon 1 2 101 2000 BidDepleted ∷ [];
    }
    -- the last microsecond of a period, and the first after it
    ∷ record {
      book = opened 1000 1001;
      room = 64;
      calls =
          depleted (negsuc 0) 100
          ++ (entry (noon + 1999) (letter 4) (midpoint_sell ImmediateOrCancel 100)
          ∷ entry (noon + 2000) (letter 5) (midpoint_sell ImmediateOrCancel 100)
          ∷ []);
      answers = entered 1 0 0 ∷ entered 2 0 0 ∷ entered 3 100 0 ∷ entered 4 0 100 ∷ entered 5 100 0 ∷ [];
      tape = line noon 1 3 100 2000 BidDepleted ∷ line (noon + 2000) 2 5 100 2001 Nothing ∷ [];
    }
    ∷ []

-- Questions and the close

-- eight orders at 1000 by 1001; all buys but qdp_mdo rank at 2000
abbrev pub ranked_calls : List Call
ranked_calls =
    entry 0 (letter 1) (plain Buy HiddenLimit Rest 100 1000)
    ∷ entry 0 (letter 2) (displayed_buy 300)
    ∷ entry 0 (letter 3) (qdp_mdo Buy 1001 (negsuc 0))
    ∷ entry 0 (letter 4) (plain Buy MidpointPeg Rest 50 1000)
    ∷ entry 0 (letter 5) (plain Buy HiddenLimit Rest 1 1000)
    ∷ entry 0 (letter 6) (plain Sell DisplayedLimit Rest 7 1002)
    ∷ entry 0 (letter 7) (free_mdo Buy DisplayedMdo 1001 (pos 0))
    ∷ entry 0 (letter 8) (free_mdo Buy HiddenMdo 1001 (pos 0))
    ∷ []

abbrev pub after : List Call → Market
after calls = (run 64 calls (opened 1000 1001)).book.market

-- a side by its code, a place, and what stands there
pub record Question : Type 0 where
  pub code : ℕ
  pub place : ℕ
  pub answer : Option Standing

abbrev pub stands : ℕ → ℕ → ℕ → ℕ → Option Standing
stands number ranked reach left = Some (record { number = number; ranked = ranked; reach = reach; left = left })

abbrev pub questions : List Question
questions =
    record { code = 1; place = 0; answer = None }
    ∷ record { code = 1; place = 1; answer = stands 2 2000 2000 300 }
    ∷ record { code = 1; place = 2; answer = stands 7 2000 2001 200 }
    ∷ record { code = 1; place = 3; answer = stands 1 2000 2000 100 }
    ∷ record { code = 1; place = 4; answer = stands 5 2000 2000 1 }
    ∷ record { code = 1; place = 5; answer = stands 8 2000 2001 200 }
    ∷ record { code = 1; place = 6; answer = stands 4 2000 2000 50 }
    ∷ record { code = 1; place = 7; answer = stands 3 1998 2001 200 }
    ∷ record { code = 1; place = 8; answer = None }
    ∷ record { code = 2; place = 1; answer = stands 6 2004 2004 7 }
    ∷ record { code = 2; place = 2; answer = None }
    ∷ record { code = 3; place = 1; answer = None }
    ∷ []

abbrev pub answered : Question → Question
answered question = record question { answer = asked (after ranked_calls) question.code question.place }

-- why each resting order reaches as far as it does, lowest entry number first
abbrev pub reasons : List Call → List Why
reasons calls = map (why (after calls)) (after calls).orders

-- the questions above, the figures at that book's close, and reasons: with discretion, after a depletion, at midpoint and limit
abbrev pub QuestionsAsTold : Type 0
QuestionsAsTold =
    (map answered questions ≡ questions)
    × (closing (after ranked_calls) ≡ record { buys = 7; buy_shares = 1051; sells = 1; sell_shares = 7 })
    × (reasons (entry 0 (letter 1) (displayed_buy 1) ∷ entry 0 (letter 2) (qdp_mdo Buy 1001 (negsuc 0)) ∷ []) ≡ no_mdo ∷ discretion ∷ [])
    × (reasons (depleted (negsuc 0) 1) ≡ no_mdo ∷ protected 1 (noon + 2000) ∷ [])
    × (reasons (quote 0 1000 1010 ∷ entry 0 (letter 1) (qdp_mdo Buy 999 (pos 0)) ∷ entry 0 (letter 2) (free_mdo Buy HiddenMdo 1006 (pos 6)) ∷ [])
    ≡ at_limit ∷ at_midpoint ∷ [])
