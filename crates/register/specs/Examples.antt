-- Worked examples, as one table: a question to the definitions, and its answer. The quote is 1000 by 1001.
use Rattle.std.specs.Prelude.{◌≡◌, ℕ, Bool, true, false, List, [], ◌∷◌, map, length, replicate, ℤ, pos, negsuc, Some, None, Ok, Err, codes, Option, Result}
use Rattle.terms.specs.declared.side.Side.TheVariants.{Buy, Sell}
use Rattle.terms.specs.declared.kind.Kind.TheVariants.{HiddenMdo}
use Rattle.terms.specs.declared.time_in_force.TimeInForce.TheVariants.{Rest}
use Rattle.terms.specs.declared.ticket.Draft.{Draft}
use Rattle.terms.specs.declared.refusal.Refusal.{Refusal}
use Rattle.terms.specs.Codes.{refusal_number}
use Rattle.terms.specs.Terms.{OrderTerms}
use Rattle.terms.specs.Judging.{ticket_from}
use Rattle.terms.specs.Prices.{ranked, reach}
use Rattle.terms.specs.Identifiers.{lawful_identifier}
use Rattle.register.specs.declared.fault.Fault.{Fault}
use Rattle.register.specs.Layout.{Listed}
use Rattle.register.specs.Reading.{Cursor, read_next}

pub data Question : Type 0 where
  ranked_price_of : OrderTerms → Question
  reach_of : OrderTerms → Question
  ticket_of : Draft → Question
  may_identify : List ℕ → Question
  register_says : List ℕ → Question

pub data Answer : Type 0 where
  price : ℕ → Answer
  passes : Answer
  fails : Answer
  refused : ℕ → Answer
  orders_and_rest : Listed → List ℕ → Answer
  nothing : Answer
  faulty : Fault → Answer

abbrev pub outcome : Result OrderTerms Refusal → Answer
outcome (Ok w) = passes
outcome (Err e) = refused (refusal_number e)

abbrev pub verdict : Bool → Answer
verdict true = passes
verdict false = fails

abbrev pub reading : Option (Result Cursor Fault) → Answer
reading None = nothing
reading (Some (Ok c)) = orders_and_rest c.order c.rest
reading (Some (Err e)) = faulty e

abbrev pub answer_to : Question → Answer
answer_to (ranked_price_of w) = price (ranked w 1000 1001)
answer_to (reach_of w) = price (reach w false 1000 1001)
answer_to (ticket_of d) = outcome (ticket_from d)
answer_to (may_identify id) = verdict (lawful_identifier id)
answer_to (register_says bs) = reading (read_next (length bs) bs)

-- buy, hidden MDO, rest, QDP (codes 1 4 1 1): 200 shares at a limit of 1001 cents
abbrev pub buy_mdo : ℤ → Draft
buy_mdo z =
    record { side = 1; kind = 4; time_in_force = 1; qdp = 1; shares = 200; limit = 1001; offset = z }

abbrev pub buy_mdo_terms : OrderTerms
buy_mdo_terms =
    record {
      side = Buy;
      kind = HiddenMdo;
      time_in_force = Rest;
      qdp = true;
      shares = 200;
      limit = 1001;
      offset = negsuc 0;
    }

abbrev pub sell_mdo_terms : OrderTerms
sell_mdo_terms =
    record {
      side = Sell;
      kind = HiddenMdo;
      time_in_force = Rest;
      qdp = true;
      shares = 200;
      limit = 1000;
      offset = pos 1;
    }

-- "A1" with the terms of the buy MDO, offset -1
abbrev pub bytes_of_A1 : List ℕ
bytes_of_A1 =
    0x01 ∷ (0x00 ∷ (0x02 ∷ (0x41 ∷ (0x31
    ∷ (0x02 ∷ (0x00 ∷ (0x04 ∷ (0x01 ∷ (0x04 ∷ (0x01 ∷ (0x01
    ∷ (0x03 ∷ (0x00 ∷ (0x04 ∷ (0x00 ∷ (0x00 ∷ (0x00 ∷ (0xC8
    ∷ (0x04 ∷ (0x00 ∷ (0x04 ∷ (0x00 ∷ (0x00 ∷ (0x03 ∷ (0xE9
    ∷ (0x05 ∷ (0x00 ∷ (0x02 ∷ (0xFF ∷ (0xFF ∷ []))))))))))))))))))))))))))))))

abbrev pub examples : List (Question × Answer)
examples =
    (ranked_price_of buy_mdo_terms, price 1998)
    ∷ ((reach_of buy_mdo_terms, price 2001)
    ∷ ((ranked_price_of sell_mdo_terms, price 2004)
    ∷ ((reach_of sell_mdo_terms, price 2001)
    ∷ ((ticket_of (buy_mdo (negsuc 99)), passes)
    ∷ ((ticket_of (buy_mdo (negsuc 100)), refused 4)
    ∷ ((may_identify (replicate 20 65), passes)
    ∷ ((may_identify (replicate 21 65), fails)
    ∷ ((register_says bytes_of_A1, orders_and_rest (record { identifier = codes "A1"; draft = buy_mdo (negsuc 0) }) [])
    ∷ []))))))))

abbrev pub ExamplesAsTold : Type 0
ExamplesAsTold = map (λ x. answer_to x.0) examples ≡ map (λ x. x.1) examples
