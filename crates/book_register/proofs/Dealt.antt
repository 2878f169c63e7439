-- A load deals with the orders that a register lists one by one, by the definition. Cite deals.
use Rattle.std.proofs.Common.{◌≡◌, ℕ, zero, suc, ◌+◌, ◌<◌, ◌≤◌, Bool, true, false, ltb, List, [], ◌∷◌, ◌++◌, length, Some, None, Ok, Err, Option, Result, sym, refl, ap, ◌∙◌, subst, append_assoc, append-nil, arith}
use Rattle.std.proofs.lemmas.Bool.{ltb-true, ltb-false}
use Rattle.std.proofs.lemmas.List.{length-append}
use Rattle.terms.specs.Terms.{OrderTerms}
use Rattle.terms.specs.Judging.{ticket_from}
use Rattle.terms.specs.declared.refusal.Refusal.{Refusal as TicketRefusal}
use Rattle.terms.specs.declared.time_in_force.TimeInForce.{TimeInForce}
use Rattle.terms.specs.declared.time_in_force.TimeInForce.TheVariants.{ImmediateOrCancel, Rest}
use Rattle.register.specs.declared.fault.Fault.{Fault}
use Rattle.register.specs.declared.fault.Fault.TheVariants.{Ticket}
use Rattle.register.specs.Layout.{Listed}
use Rattle.register.specs.Reading.{Cursor, place_in, read_order, read_next}
use Rattle.register.proofs.Tails.{order_shortens}
use Rattle.rules.specs.Answers.{Answer, entered, cancelled, quoted, ticked, refused}
use Rattle.rules.specs.Calls.{Call, Outcome, call, entry, done_at, rested}
use Rattle.rules.specs.Clock.{at_time}
use Rattle.rules.specs.Market.{Market, Book as RuleBook}
use Rattle.rules.proofs.Lasting.{call_ways, enter_ways}
use Rattle.book_register.specs.declared.load.LoadFault.{LoadFault}
use Rattle.book_register.specs.declared.load.LoadFault.TheVariants.{Register, SlipsFull, Book}
use Rattle.book_register.specs.declared.load.Slip.{Slip}
use Rattle.book_register.specs.Faults.{load_fault_place, slip_of}
use Rattle.book_register.specs.Loads.{Load, Ended, Attempt, entry_fault, made, with_attempt, stopped_if, go_on, slip_put, accounted, attempt_with, next_loaded, load_on}
use Rattle.book_register.specs.Law.{OrderAt, Lists, OneByOne, no_order, is_entered, ticket_is_refused, entry_is_refused, EndsAt}

-- an entry is answered as entered or as refused
abbrev OfEntry : Answer → Type 0
OfEntry (entered number traded lapsed) = Unit {0}
OfEntry (cancelled left) = ⊥
OfEntry quoted = ⊥
OfEntry ticked = ⊥
OfEntry (refused why) = Unit {0}

rested_answer : (f : TimeInForce) (t k n : ℕ) (m : Market) → OfEntry (rested f t k n m).answer
rested_answer Rest t k n m = tt
rested_answer ImmediateOrCancel t k n m = tt

entry_answer : (free t : ℕ) (id : List ℕ) (w : OrderTerms) (b : RuleBook) → OfEntry (call free (entry t id w) b).answer
unfolding done_at
entry_answer free t id w b =
    call_ways (λ (r : Outcome). OfEntry r.answer) free (entry t id w) b (λ _ _. tt)
    (λ _. enter_ways (λ (r : Outcome). OfEntry r.answer) t id w (at_time t b) (λ _ _. tt) (λ _ _. rested_answer w.time_in_force t _ w.shares _))

pub shortened : (total : ℕ) (rest : List ℕ) (c : Cursor) → read_next total rest ≡ Some (Ok c) → length c.rest < length rest
shortened total [] c e = let z : ◌≡◌ {A = ℕ} 0 1 = cc in absurd (omega arith)
shortened total (b ∷ bs) c e = let same : Ok c ≡ read_order total (b ∷ bs) = cc in order_shortens total (b ∷ bs) c same

module _ (time room places total : ℕ) where
  -- the load that has come so far goes on from the rest, and ends as `ended`
  pub record Dealt (rest : List ℕ) (load : Load) (ended : Ended) : Type 0 where
    pub orders : List OrderAt
    pub left : List ℕ
    pub calls : List Call
    pub due : List Slip
    pub listed : Lists total rest orders left
    pub one_by_one : OneByOne time room orders load.book calls due ended.load.book
    pub made_so : ended.load.calls ≡ load.calls ++ calls
    pub ends : EndsAt places total orders left (load.slips ++ due) ended.load.slips ended.stop
    pub count : ended.load.entered + length due ≡ load.entered + length orders

  nothing_more : (rest : List ℕ) (load : Load) (stop : Option LoadFault) → EndsAt places total [] rest (load.slips ++ []) load.slips stop → Dealt rest load (stopped_if stop load)
  nothing_more rest load stop ends =
      record {
        orders = [];
        left = rest;
        calls = [];
        due = [];
        listed = refl;
        one_by_one = no_order load.book;
        made_so = sym (append-nil load.calls);
        ends = ends;
        count = refl;
      }

  -- an order came next
  module _ (rest left : List ℕ) (load : Load) (place : ℕ) (order : Listed) (read : read_next total rest ≡ Some (Ok (record { order = order; rest = left }))) (here : place ≡ place_in total rest) where
    abbrev at : OrderAt
    at = record { place = place; order = order }

    -- a load that ends with more orders ends so with this one before them
    ends_on : (orders : List OrderAt) (rest : List ℕ) (due put : List Slip) (stop : Option LoadFault)
        → EndsAt places total orders rest due put stop → EndsAt places total (at ∷ orders) rest due put stop
    ends_on orders rest due put None e = e
    ends_on orders rest due put (Some (Register fault)) e = e
    ends_on orders rest due put (Some (SlipsFull stood)) e =
        (e.0, e.1, (at ∷ e.2.0, e.2.1, ap (λ z. at ∷ z) e.2.2, e.2.3))
    ends_on orders rest due put (Some (Book why stood)) e = absurd e

    -- it takes these calls and slips, and leaves the book `between`
    abbrev Takes : List Call → List Slip → RuleBook → Type 0
    Takes cs ss between =
        (more : List OrderAt) (after : RuleBook) (calls : List Call) (due : List Slip)
        → OneByOne time room more between calls due after
        → OneByOne time room (at ∷ more) load.book (cs ++ calls) (ss ++ due) after

    module _ (cs : List Call) (between : RuleBook) where
      goes_on : (ss slips : List Slip) (n : ℕ) (ended : Ended) → Takes cs ss between → load.slips ++ ss ≡ slips → n + length ss ≡ load.entered + 1
          → Dealt left (record { calls = load.calls ++ cs; entered = n; slips = slips; book = between }) ended → Dealt rest load ended
      goes_on ss slips n ended takes put one d =
          record {
            orders = at ∷ d.orders;
            left = d.left;
            calls = cs ++ d.calls;
            due = ss ++ d.due;
            listed = (left, read, here, d.listed);
            one_by_one = takes d.orders ended.load.book d.calls d.due d.one_by_one;
            made_so = d.made_so ∙ append_assoc load.calls cs d.calls;
            ends = ends_on d.orders d.left _ ended.load.slips ended.stop (subst (λ z. EndsAt places total d.orders d.left z ended.load.slips ended.stop) (ap (λ z. z ++ d.due) (sym put) ∙ append_assoc load.slips ss d.due) d.ends);
            count = omega (arith, d.count, one, length-append ss d.due);
          }

      abbrev tried : Load
      tried = record { calls = load.calls ++ cs; entered = load.entered; slips = load.slips; book = between }

      no_place : (slip : Slip) → slip.place ≡ place → Takes cs (slip ∷ []) between → length load.slips ≡ places → Dealt rest load (stopped_if (Some (SlipsFull place)) tried)
      no_place slip told takes full =
          record {
            orders = at ∷ [];
            left = left;
            calls = cs ++ [];
            due = slip ∷ [];
            listed = (left, read, here, refl);
            one_by_one = takes [] between [] [] (no_order between);
            made_so = ap (λ z. load.calls ++ z) (sym (append-nil cs));
            ends = (full, (slip, refl, told), ([], at, refl, refl));
            count = refl;
          }

      slipped : (fault : LoadFault) (more : Load → Ended) → load_fault_place fault ≡ place → Takes cs (slip_of fault ∷ []) between → length load.slips ≤ places
          → ((next : Load) → length next.slips ≤ places → Dealt left next (more next))
          → (free : Bool) → ltb (length load.slips) places ≡ free
          → Dealt rest load (go_on (slip_put place fault tried free).stop (slip_put place fault tried free).load more)
      slipped fault more told takes fit ih true h =
          goes_on (slip_of fault ∷ []) (load.slips ++ (slip_of fault ∷ [])) load.entered _ takes refl (omega arith)
          (ih _ (omega (arith, ltb-true (length load.slips) places h, length-append load.slips (slip_of fault ∷ []))))
      slipped fault more told takes fit ih false h =
          no_place (slip_of fault) told takes (omega (arith, fit, ltb-false (length load.slips) places h))

    module _ (more : Load → Ended) (fit : length load.slips ≤ places) (ih : (next : Load) → length next.slips ≤ places → Dealt left next (more next)) where
      by_answer : (w : OrderTerms) → ticket_from order.draft ≡ Ok w → (a : Answer) → (made room (entry time order.identifier w) load.book).answer ≡ a → OfEntry a
          → let tried_it : Load = tried (entry time order.identifier w ∷ []) (made room (entry time order.identifier w) load.book).book in
          Dealt rest load (go_on (accounted places place (entry_fault place a) tried_it).stop (accounted places place (entry_fault place a) tried_it).load more)
      by_answer w lawful (entered n t l) told of =
          let c = entry time order.identifier w in
          let between = (made room c load.book).book in
          goes_on (c ∷ []) between [] load.slips (load.entered + 1) _
          (λ orders after calls due h. is_entered at orders load.book between after c calls due (record { terms = w; ticket = lawful; same = refl }) (record { number = n; traded = t; lapsed = l; answer = told; book = refl }) h)
          (append-nil load.slips) (omega arith) (ih _ fit)
      by_answer w lawful (cancelled left) told of = absurd of
      by_answer w lawful quoted told of = absurd of
      by_answer w lawful ticked told of = absurd of
      by_answer w lawful (refused why) told of =
          let c = entry time order.identifier w in
          let between = (made room c load.book).book in
          slipped (c ∷ []) between (Book why place) more refl
          (λ orders after calls due h. entry_is_refused at orders load.book between after c (slip_of (Book why place)) calls due (record { terms = w; ticket = lawful; same = refl }) (record { why = why; answer = told; told = refl; book = refl }) h)
          fit ih (ltb (length load.slips) places) refl

      tries : Result OrderTerms TicketRefusal → Attempt
      tries x =
          attempt_with time room place order load.book (elim x as (λ _. Result OrderTerms Fault) [ Ok w ↦ Ok w | Err e ↦ Err (Ticket e place) ])

      by_ticket : (x : Result OrderTerms TicketRefusal) → ticket_from order.draft ≡ x
          → Dealt rest load (go_on (accounted places place (tries x).fault (with_attempt (tries x) load)).stop (accounted places place (tries x).fault (with_attempt (tries x) load)).load more)
      unfolding tries
      by_ticket (Ok w) lawful =
          by_answer w lawful (made room (entry time order.identifier w) load.book).answer refl (entry_answer _ time order.identifier w load.book)
      by_ticket (Err why) unlawful =
          slipped [] load.book (Register (Ticket why place)) more refl
          (λ orders after calls due h. ticket_is_refused at orders load.book after (slip_of (Register (Ticket why place))) calls due (record { why = why; ticket = unlawful; told = refl }) h)
          fit ih (ltb (length load.slips) places) refl

      ordered : Dealt rest load (next_loaded time room places place (Some (Ok (record { order = order; rest = left }))) load (λ _. more))
      unfolding tries
      ordered = by_ticket (ticket_from order.draft) refl

  by_next : (rest : List ℕ) (load : Load) (more : List ℕ → Load → Ended) → length load.slips ≤ places
      → ((left : List ℕ) (next : Load) → length left < length rest → length next.slips ≤ places → Dealt left next (more left next))
      → (next : Option (Result Cursor Fault)) → read_next total rest ≡ next → Dealt rest load (next_loaded time room places (place_in total rest) next load more)
  by_next rest load more fit ih None read = nothing_more rest load None (read, sym (append-nil load.slips))
  by_next rest load more fit ih (Some (Err fault)) read =
      nothing_more rest load (Some (Register fault)) (read, sym (append-nil load.slips))
  by_next rest load more fit ih (Some (Ok c)) read =
      ordered rest c.rest load (place_in total rest) c.order read refl (more c.rest) fit (λ next. ih c.rest next (shortened total rest c read))

  pub deals : (turns : ℕ) (rest : List ℕ) (load : Load) → length rest ≤ turns → length load.slips ≤ places → Dealt rest load (load_on time room places turns total rest load)
  unfolding load_on
  deals zero [] load long fit = nothing_more [] load None (refl, sym (append-nil load.slips))
  deals zero (b ∷ bs) load long fit = absurd (omega arith)
  deals (suc n) rest load long fit =
      by_next rest load (load_on time room places n total) fit (λ left next shorter. deals n left next (omega (arith, shorter, long))) (read_next total rest) refl
