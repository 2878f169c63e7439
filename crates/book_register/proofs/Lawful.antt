-- The law of loads, by the definition. Cite load_lawful.
use Rattle.std.proofs.Common.{ℕ, zero, suc, Bool, true, false, ltb, List, [], length, Some, None, Ok, Err, Option, Result, sym, refl, subst, inl, inr, arith}
use Rattle.std.specs.List.{AllByRecursion as Every}
use Rattle.std.proofs.ByRecursion.{All-append, All-push}
use Rattle.terms.specs.Terms.{OrderTerms}
use Rattle.terms.specs.Judging.{ticket_from}
use Rattle.terms.specs.declared.refusal.Refusal.{Refusal}
use Rattle.register.specs.declared.fault.Fault.{Fault}
use Rattle.register.specs.declared.fault.Fault.TheVariants.{Ticket}
use Rattle.register.specs.Faults.{listed_ticket}
use Rattle.register.specs.Layout.{Listed}
use Rattle.register.specs.Reading.{Cursor, place_in, read_next}
use Rattle.rules.specs.Answers.{Answer, entered, cancelled, quoted, ticked, refused}
use Rattle.rules.specs.Calls.{entry}
use Rattle.rules.specs.Market.{Book as RuleBook}
use Rattle.book_register.specs.declared.load.LoadFault.{LoadFault}
use Rattle.book_register.specs.Faults.{slip_of}
use Rattle.book_register.specs.Loads.{Load, Ended, entry_fault, made, with_attempt, stopped_if, go_on, slip_put, accounted, attempt_with, attempt, after_order, next_loaded, load_on, load_of}
use Rattle.book_register.specs.Law.{EntryAt, OfOneOrder, Stops, OneByOne, LawfulLoad}
use Rattle.book_register.proofs.Dealt.{deals}
use Rattle.book_register.proofs.Layers.{PlainNext, next_plain}

-- a slip may be due for the fault
abbrev Slips : Option LoadFault → Type 0
Slips None = Unit {0}
Slips (Some e) = OfOneOrder (slip_of e)

entry_slips : (place : ℕ) (a : Answer) → Slips (entry_fault place a)
entry_slips place (entered number traded lapsed) = tt
entry_slips place (cancelled left) = tt
entry_slips place quoted = tt
entry_slips place ticked = tt
entry_slips place (refused why) = inr refl

module _ (time room : ℕ) where
  attempt_slips : (place : ℕ) (o : Listed) (b : RuleBook) → Slips (attempt time room place o b).fault
  attempt_slips place o b = judged (ticket_from o.draft)
    where
      judged : (x : Result OrderTerms Refusal) → Slips (attempt_with time room place o b (elim x as (λ _. Result OrderTerms Fault) [ Ok w ↦ Ok w | Err e ↦ Err (Ticket e place) ])).fault
      judged (Ok w) = entry_slips place (made room (entry time o.identifier w) b).answer
      judged (Err e) = inl refl

  attempt_entries : (place : ℕ) (o : Listed) (b : RuleBook) → Every (EntryAt time) (attempt time room place o b).calls
  attempt_entries place o b = made_of (listed_ticket place o.draft)
    where
      made_of : (r : Result OrderTerms Fault) → Every (EntryAt time) (attempt_with time room place o b r).calls
      made_of (Ok w) = (refl, tt)
      made_of (Err e) = tt

  abbrev SoLawful : Load → Type 0
  SoLawful l = Every (EntryAt time) l.calls × Every OfOneOrder l.slips

  abbrev EndsLawful : Ended → Type 0
  EndsLawful e = SoLawful e.load × Stops e.stop

  module _ (places : ℕ) where
    accounted_lawful : (place : ℕ) (fault : Option LoadFault) (l : Load) → Slips fault → SoLawful l → EndsLawful (accounted places place fault l)
    accounted_lawful place None l due h = (h, tt)
    accounted_lawful place (Some e) l due h = put (ltb (length l.slips) places)
      where
        put : (free : Bool) → EndsLawful (slip_put place e l free)
        put true = ((h.0, All-push OfOneOrder l.slips (slip_of e) h.1 due), tt)
        put false = (h, inr refl)

    order_lawful : (place : ℕ) (o : Listed) (l : Load) → SoLawful l → EndsLawful (after_order time room places place o l)
    order_lawful place o l h =
        accounted_lawful place (attempt time room place o l.book).fault (with_attempt (attempt time room place o l.book) l) (attempt_slips place o l.book)
        (All-append (EntryAt time) l.calls (attempt time room place o l.book).calls h.0 (attempt_entries place o l.book), h.1)

    on_lawful : (stop : Option LoadFault) (l : Load) (more : Load → Ended) → EndsLawful (stopped_if stop l) → ((k : Load) → SoLawful k → EndsLawful (more k)) → EndsLawful (go_on stop l more)
    on_lawful None l more h ih = ih l h.0
    on_lawful (Some e) l more h ih = h

    next_lawful : (place : ℕ) (r : Option (Result Cursor Fault)) (l : Load) (more : List ℕ → Load → Ended) → PlainNext r → SoLawful l → ((rest : List ℕ) (k : Load) → SoLawful k → EndsLawful (more rest k)) → EndsLawful (next_loaded time room places place r l more)
    next_lawful place None l more p h ih = (h, tt)
    next_lawful place (Some (Err e)) l more p h ih = (h, p)
    next_lawful place (Some (Ok c)) l more p h ih =
        on_lawful (after_order time room places place c.order l).stop (after_order time room places place c.order l).load (more c.rest) (order_lawful place c.order l h) (ih c.rest)

    load_keeps : (turns total : ℕ) (rest : List ℕ) (l : Load) → SoLawful l → EndsLawful (load_on time room places turns total rest l)
    unfolding load_on
    load_keeps zero total rest l h = (h, tt)
    load_keeps (suc n) total rest l h =
        next_lawful (place_in total rest) (read_next total rest) l (load_on time room places n total) (next_plain total rest) h (load_keeps n total)

    pub load_lawful : (register : List ℕ) (b : RuleBook) → LawfulLoad time room places register b (load_of time room places register b)
    load_lawful register b =
        let start : Load = record { calls = []; entered = 0; slips = []; book = b } in
        let keeps = load_keeps (length register) (length register) register start (tt, tt) in
        let dealt = deals time room places (length register) (length register) register start (omega arith) (omega arith) in
        record {
          orders = dealt.orders;
          left = dealt.left;
          due = dealt.due;
          listed = dealt.listed;
          one_by_one = subst (λ z. OneByOne time room dealt.orders b z dealt.due (load_of time room places register b).load.book) (sym dealt.made_so) dealt.one_by_one;
          ends = dealt.ends;
          accounted = omega (arith, dealt.count);
          at_time = keeps.0.0;
          slips = keeps.0.1;
          stop = keeps.1;
        }
