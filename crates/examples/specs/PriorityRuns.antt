-- Worked examples of priority, line prices, marks and periods, for what no law pins. The words are those of Examples.
use Rattle.std.specs.Prelude.{◌+◌, List, [], ◌∷◌, ◌++◌, pos, negsuc}
use Rattle.terms.specs.declared.kind.Kind.TheVariants.{DisplayedLimit, HiddenMdo, HiddenLimit, DisplayedMdo, MidpointPeg}
use Rattle.terms.specs.declared.side.Side.TheVariants.{Sell, Buy}
use Rattle.terms.specs.declared.time_in_force.TimeInForce.TheVariants.{Rest, ImmediateOrCancel}
use Rattle.tape.specs.declared.line.Mark.TheVariants.{OfferDepleted, Nothing, BidDepleted}
use Rattle.rules.specs.declared.refusal.Refusal.TheVariants.{NoSuchOrder, Time}
use Rattle.rules.specs.Answers.{entered, cancelled, ticked, refused, quoted}
use Rattle.rules.specs.Calls.{Call, entry, cancel, tick, quote}
use Rattle.examples.specs.Examples.{depleted, letter, displayed_buy, plain, noon, sell_at, buy_at, qdp_mdo, Example, free_mdo, midpoint_sell, line}
use Rattle.rules.specs.Runs.{opened}

-- bid and offer are both depleted at noon, at 1000 by 1002
abbrev pub both_depleted : List Call
both_depleted =
    entry 0 (letter 1) (displayed_buy 100)
    ∷ entry 0 (letter 2) (plain Sell DisplayedLimit Rest 100 1002)
    ∷ entry noon (letter 3) (sell_at 1 1000)
    ∷ entry noon (letter 4) (buy_at 1 1002)
    ∷ []

-- a protected buy waits for noon + 2,000; then it will take a displayed sell and so deplete the offer
abbrev pub chained : List Call
chained =
    entry 0 (letter 1) (displayed_buy 100)
    ∷ entry noon (letter 2) (sell_at 1 1000)
    ∷ entry (noon + 1) (letter 3) (qdp_mdo Buy 1002 (negsuc 0))
    ∷ entry (noon + 2) (letter 4) (plain Sell DisplayedLimit Rest 100 1001)
    ∷ entry (noon + 3) (letter 5) (qdp_mdo Sell 1000 (pos 1))
    ∷ []

abbrev pub told_of_priority : List Example
told_of_priority =
    -- four partners at one line price: displayed, hidden, midpoint peg, and last the one that trades away from its ranked price
    record {
      book = opened 1000 1002;
      room = 64;
      calls =
          entry 0 (letter 1) (free_mdo Sell HiddenMdo 1000 (pos 1))
          ∷ entry 0 (letter 2) (midpoint_sell Rest 100)
          ∷ entry 0 (letter 3) (plain Sell HiddenLimit Rest 100 1001)
          ∷ entry 0 (letter 4) (plain Sell DisplayedLimit Rest 200 1001)
          ∷ entry noon (letter 5) (buy_at 450 1001)
          ∷ [];
      answers = entered 1 0 0 ∷ entered 2 0 0 ∷ entered 3 0 0 ∷ entered 4 0 0 ∷ entered 5 450 0 ∷ [];
      tape =
          line noon 4 5 200 2002 OfferDepleted
          ∷ line noon 3 5 100 2002 Nothing
          ∷ line noon 2 5 100 2002 Nothing
          ∷ line noon 1 5 50 2002 Nothing
          ∷ [];
    }
    -- the better ranked price first, whatever the class; then the lower entry number; a better ranked price is the line's price
    ∷ record {
      book = opened 1000 1003;
      room = 64;
      calls =
          entry 0 (letter 1) (plain Sell DisplayedLimit Rest 100 1002)
          ∷ entry 0 (letter 2) (plain Sell HiddenLimit Rest 100 1002)
          ∷ entry 0 (letter 3) (plain Sell HiddenLimit Rest 100 1002)
          ∷ entry 0 (letter 4) (plain Sell HiddenLimit Rest 100 1001)
          ∷ entry noon (letter 5) (plain Buy HiddenLimit Rest 350 1002)
          ∷ cancel noon (letter 3)
          ∷ [];
      answers = entered 1 0 0 ∷ entered 2 0 0 ∷ entered 3 0 0 ∷ entered 4 0 0 ∷ entered 5 350 0 ∷ cancelled 50 ∷ [];
      tape =
          line noon 4 5 100 2002 Nothing
          ∷ line noon 1 5 100 2004 OfferDepleted
          ∷ line noon 2 5 100 2004 Nothing
          ∷ line noon 3 5 50 2004 Nothing
          ∷ [];
    }
    -- a displayed order behind a better displayed price does not deplete, though nothing is left at its own; both go at their price
    ∷ record {
      book = opened 1000 1001;
      room = 64;
      calls =
          entry 0 (letter 1) (displayed_buy 300)
          ∷ entry 0 (letter 2) (free_mdo Buy DisplayedMdo 1001 (negsuc 1))
          ∷ entry noon (letter 3) (midpoint_sell ImmediateOrCancel 200)
          ∷ entry noon (letter 4) (sell_at 300 1000)
          ∷ [];
      answers = entered 1 0 0 ∷ entered 2 0 0 ∷ entered 3 200 0 ∷ entered 4 300 0 ∷ [];
      tape = line noon 2 3 200 2001 Nothing ∷ line noon 1 4 300 2000 BidDepleted ∷ [];
    }
    -- a displayed MDO ranked at the best displayed price depletes it, also where it trades at a better one
    ∷ record {
      book = opened 1000 1001;
      room = 64;
      calls = entry 0 (letter 1) (free_mdo Buy DisplayedMdo 1001 (pos 0)) ∷ entry noon (letter 2) (midpoint_sell ImmediateOrCancel 101) ∷ [];
      answers = entered 1 0 0 ∷ entered 2 101 0 ∷ [];
      tape = line noon 1 2 101 2001 BidDepleted ∷ [];
    }
    -- shares displayed at another price do not count, nor do hidden ones at this price; and a hidden partner depletes nothing
    ∷ record {
      book = opened 1000 1001;
      room = 64;
      calls =
          entry 0 (letter 1) (displayed_buy 100)
          ∷ entry 0 (letter 2) (plain Buy DisplayedLimit Rest 300 999)
          ∷ entry 0 (letter 3) (free_mdo Buy HiddenMdo 1000 (pos 0))
          ∷ entry noon (letter 4) (sell_at 1 1000)
          ∷ entry noon (letter 5) (sell_at 150 1000)
          ∷ [];
      answers = entered 1 0 0 ∷ entered 2 0 0 ∷ entered 3 0 0 ∷ entered 4 1 0 ∷ entered 5 150 0 ∷ [];
      tape = line noon 1 4 1 2000 BidDepleted ∷ line noon 1 5 99 2000 BidDepleted ∷ line noon 3 5 51 2000 Nothing ∷ [];
    }
    -- a line at a price that was depleted before depletes again, and the period runs anew
    ∷ record {
      book = opened 1000 1001;
      room = 64;
      calls =
          depleted (negsuc 0) 1
          ++ (entry (noon + 1500) (letter 4) (sell_at 1 1000)
          ∷ entry (noon + 3499) (letter 5) (midpoint_sell ImmediateOrCancel 100)
          ∷ entry (noon + 3500) (letter 6) (midpoint_sell ImmediateOrCancel 100)
          ∷ []);
      answers = entered 1 0 0 ∷ entered 2 0 0 ∷ entered 3 1 0 ∷ entered 4 1 0 ∷ entered 5 0 100 ∷ entered 6 100 0 ∷ [];
      tape = line noon 1 3 1 2000 BidDepleted ∷ line (noon + 1500) 1 4 1 2000 BidDepleted ∷ line (noon + 3500) 2 6 100 2001 Nothing ∷ [];
    }
    -- both periods end at one moment: the buy side first, so that its order rests and the sell is the taker
    ∷ record {
      book = opened 1000 1002;
      room = 64;
      calls =
          both_depleted
          ++ (entry (noon + 1) (letter 5) (qdp_mdo Sell 1000 (pos 1)) ∷ entry (noon + 1) (letter 6) (qdp_mdo Buy 1002 (negsuc 0)) ∷ tick (noon + 2000) ∷ []);
      answers = entered 1 0 0 ∷ entered 2 0 0 ∷ entered 3 1 0 ∷ entered 4 1 0 ∷ entered 5 0 0 ∷ entered 6 0 0 ∷ ticked ∷ [];
      tape =
          line noon 1 3 1 2000 BidDepleted
          ∷ line noon 2 4 1 2004 OfferDepleted
          ∷ line (noon + 2000) 6 5 200 2002 Nothing
          ∷ [];
    }
    -- a period begins as another ends: the sell is protected from then on, and trades when its own period has ended
    ∷ record {
      book = opened 1000 1002;
      room = 64;
      calls = chained ++ (tick (noon + 3999) ∷ tick (noon + 4000) ∷ []);
      answers = entered 1 0 0 ∷ entered 2 1 0 ∷ entered 3 0 0 ∷ entered 4 0 0 ∷ entered 5 0 0 ∷ ticked ∷ ticked ∷ [];
      tape =
          line noon 1 2 1 2000 BidDepleted
          ∷ line (noon + 2000) 4 3 100 2002 OfferDepleted
          ∷ line (noon + 4000) 3 5 100 2002 Nothing
          ∷ [];
    }
    -- one call ends both, each at its own end
    ∷ record {
      book = opened 1000 1002;
      room = 64;
      calls = chained ++ (cancel (noon + 9000) (letter 3) ∷ cancel (noon + 9000) (letter 5) ∷ []);
      answers = entered 1 0 0 ∷ entered 2 1 0 ∷ entered 3 0 0 ∷ entered 4 0 0 ∷ entered 5 0 0 ∷ refused NoSuchOrder ∷ cancelled 100 ∷ [];
      tape =
          line noon 1 2 1 2000 BidDepleted
          ∷ line (noon + 2000) 4 3 100 2002 OfferDepleted
          ∷ line (noon + 4000) 3 5 100 2002 Nothing
          ∷ [];
    }
    -- MDOs follow a new quote, hidden and displayed, lowest entry number first
    ∷ record {
      book = opened 1000 1001;
      room = 64;
      calls =
          entry 0 (letter 1) (free_mdo Buy HiddenMdo 1010 (pos 0))
          ∷ entry 0 (letter 2) (free_mdo Buy DisplayedMdo 1010 (pos 0))
          ∷ entry 0 (letter 3) (plain Sell DisplayedLimit Rest 400 1003)
          ∷ quote noon 1004 1006
          ∷ [];
      answers = entered 1 0 0 ∷ entered 2 0 0 ∷ entered 3 0 0 ∷ quoted ∷ [];
      tape = line noon 3 1 200 2006 Nothing ∷ line noon 3 2 200 2006 OfferDepleted ∷ [];
    }
    -- two orders follow a new quote; the second has left before its turn
    ∷ record {
      book = opened 1000 1002;
      room = 64;
      calls =
          entry 0 (letter 1) (plain Buy MidpointPeg Rest 100 1000)
          ∷ entry 0 (letter 2) (midpoint_sell Rest 100)
          ∷ quote noon 998 1000
          ∷ cancel noon (letter 2)
          ∷ [];
      answers = entered 1 0 0 ∷ entered 2 0 0 ∷ quoted ∷ refused NoSuchOrder ∷ [];
      tape = line noon 2 1 100 1998 Nothing ∷ [];
    }
    -- a period that would end after the day runs until the last moment
    ∷ record {
      book = opened 1000 1001;
      room = 64;
      calls =
          entry 0 (letter 1) (displayed_buy 100)
          ∷ entry 0 (letter 2) (qdp_mdo Buy 1001 (negsuc 0))
          ∷ entry 86399999000 (letter 3) (sell_at 1 1000)
          ∷ entry 86399999999 (letter 4) (midpoint_sell ImmediateOrCancel 100)
          ∷ tick 86400000000
          ∷ [];
      answers = entered 1 0 0 ∷ entered 2 0 0 ∷ entered 3 1 0 ∷ entered 4 0 100 ∷ refused Time ∷ [];
      tape = line 86399999000 1 3 1 2000 BidDepleted ∷ [];
    }
    ∷ []
