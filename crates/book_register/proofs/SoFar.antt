-- A load that has come so far: its definition, begun at the start, comes to what the definition makes of the rest from here.
-- Cite so_far_none at the start, so_far_entered and so_far_slipped after an order, and finished, broken and slips_full at the end.
use Rattle.std.proofs.Common.{◌≡◌, ℕ, suc, ◌+◌, ◌-◌, ◌<◌, ◌≤◌, true, false, ltb, List, [], ◌∷◌, ◌++◌, length, Some, None, Ok, Err, Option, Result, sym, refl, ap, ◌∙◌, subst, arith}
use Rattle.std.proofs.lemmas.List.{length-append}
use Rattle.std.proofs.lemmas.Bool.{lt-ltb, le-ltb}
use Rattle.terms.specs.Terms.{OrderTerms}
use Rattle.register.specs.declared.fault.Fault.{Fault}
use Rattle.register.specs.Faults.{listed_ticket}
use Rattle.register.specs.declared.reader.Listed.{Listed as ListedOrder}
use Rattle.register.specs.Layout.{Listed}
use Rattle.register.specs.Parts.{listed_of}
use Rattle.register.specs.Reading.{place_in, read_next}
use Rattle.roll.specs.declared.Roll.{Roll}
use Rattle.roll.specs.Rolls.{room_left}
use Rattle.rules.specs.Calls.{Call}
use Rattle.rules.specs.Market.{Book as RuleBook}
use Rattle.rules.specs.Runs.{run}
use Rattle.book.specs.Running.{Running}
use Rattle.book_register.specs.declared.load.LoadFault.{LoadFault}
use Rattle.book_register.specs.declared.load.LoadFault.TheVariants.{Register, SlipsFull}
use Rattle.book_register.specs.declared.load.Slip.{Slip}
use Rattle.book_register.specs.declared.load.Loaded.{Loaded}
use Rattle.book_register.specs.Faults.{slip_of}
use Rattle.book_register.specs.Loads.{Load, Ended, Attempt, made, with_attempt, stopped_if, go_on, slip_put, accounted, attempt_with, attempt, load_on, load_answer}
use Rattle.book_register.specs.Loaded.{fault_of, attempt_at, Attempted, load_into, SlipsAdded, LoadedInto}
use Rattle.book_register.proofs.Lawful.{load_lawful}
use Rattle.book_register.proofs.Nexts.{Came}
use Rattle.book_register.proofs.Slips.{Pushed, none_added, one_added, still_added}
use Rattle.book_register.proofs.Steps.{load_end, load_fault, load_order}

-- a run of some calls and then of others
run_append : (room : ℕ) (cs ds : List Call) (b : RuleBook) → (run room (cs ++ ds) b).book ≡ (run room ds (run room cs b).book).book
unfolding run
run_append room [] ds b = refl
run_append room (c ∷ cs) ds b = run_append room cs ds (made room c b).book

run_one : (room : ℕ) (c : Call) (b : RuleBook) → (run room (c ∷ []) b).book ≡ (made room c b).book
unfolding run
run_one room c b = refl

run_none : (room : ℕ) (b : RuleBook) → (run room [] b).book ≡ b
unfolding run
run_none room b = refl

attempt_with_runs : (time room place : ℕ) (o : Listed) (b : RuleBook) (r : Result OrderTerms Fault) → (attempt_with time room place o b r).book ≡ (run room (attempt_with time room place o b r).calls b).book
attempt_with_runs time room place o b (Err e) = sym (run_none room b)
attempt_with_runs time room place o b (Ok w) = sym (run_one room _ b)

attempt_runs : (time room place : ℕ) (o : Listed) (b : RuleBook) → (attempt time room place o b).book ≡ (run room (attempt time room place o b).calls b).book
attempt_runs time room place o b = attempt_with_runs time room place o b (listed_ticket place o.draft)

-- after an order that ends as `x`
ended_on : (x y : Ended) (more : Load → Ended) → x ≡ y → go_on x.stop x.load more ≡ go_on y.stop y.load more
ended_on x y more e = ap (λ (z : Ended). go_on z.stop z.load more) e

-- how far a load has come
abbrev load_with : List Call → ℕ → List Slip → RuleBook → Load
load_with cs n ss b = record { calls = cs; entered = n; slips = ss; book = b }

module _ (before : Running) (roll : Roll Slip) (time : ℕ) (register : List ℕ) where
  abbrev room : ℕ
  room = before.room

  pub record SoFar (here : Running) (roll_here : Roll Slip) (rest : List ℕ) (so_entered so_put : ℕ) : Type 0 where
    pub calls : List Call
    pub slips : List Slip
    pub turns : ℕ
    pub enough : length rest ≤ turns
    pub same : load_into before roll time register ≡ load_on time room (room_left roll) turns (length register) rest (load_with calls so_entered slips here.book)
    pub ran : here.book ≡ (run room calls before.book).book
    pub put : SlipsAdded roll roll_here slips
    pub count : so_put ≡ length slips
    pub capacity : here.room ≡ room

  pub so_far_none : SoFar before roll register 0 0
  so_far_none =
      record {
        calls = [];
        slips = [];
        turns = length register;
        enough = omega arith;
        same = refl;
        ran = sym (run_none room before.book);
        put = none_added roll;
        count = refl;
        capacity = refl;
      }

  -- a load that is over
  over : (here : Running) (roll_here : Roll Slip) (r : Result Loaded LoadFault) (l : Load) (stop : Option LoadFault) → load_into before roll time register ≡ stopped_if stop l
      → r ≡ load_answer stop l
      → here.book ≡ (run room l.calls before.book).book
      → SlipsAdded roll roll_here l.slips
      → here.room ≡ room
      → LoadedInto before here roll roll_here time register r
  over here roll_here r l stop same answer ran put capacity =
      record {
        answer = answer ∙ ap (λ (z : Ended). load_answer z.stop z.load) (sym same);
        ran = ran ∙ ap (λ (z : Ended). (run room z.load.calls before.book).book) (sym same);
        capacity = capacity;
        slips = subst (λ (z : Ended). SlipsAdded roll roll_here z.load.slips) (sym same) put;
        lawful = load_lawful time room (room_left roll) register before.book;
      }

  module _ (here : Running) (roll_here : Roll Slip) (rest : List ℕ) (n k : ℕ) (s : SoFar here roll_here rest n k) where
    abbrev so_far : Load
    so_far = load_with s.calls n s.slips here.book

    pub finished : None ≡ read_next (length register) rest → LoadedInto before here roll roll_here time register (Ok (record { entered = n; slips = k }))
    finished e =
        over here roll_here _ so_far None (s.same ∙ load_end time room (room_left roll) (length register) rest so_far s.turns e)
        (ap (λ m. Ok (record { entered = n; slips = m })) s.count) s.ran s.put s.capacity

    pub broken : (fault : Fault) → 0 < length rest → Some (Err fault) ≡ read_next (length register) rest → LoadedInto before here roll roll_here time register (Err (Register fault))
    broken fault h e =
        over here roll_here _ so_far (Some (Register fault)) (s.same ∙ load_fault time room (room_left roll) (length register) rest so_far s.turns fault (omega (arith, s.enough)) e)
        refl s.ran s.put s.capacity

    -- an order came next, and was attempted
    module _ (o : ListedOrder) (left : List ℕ) (came : Came register rest left o) (after : Running) (r : Result (Unit {0}) LoadFault) (tried : Attempted here after time o.place (listed_of o) r) where
      abbrev place : ℕ
      place = place_in (length register) rest

      abbrev tries : Attempt
      tries = attempt time room place (listed_of o) here.book

      tries_are : attempt_at here time o.place (listed_of o) ≡ tries
      tries_are =
          ap (λ m. attempt time m o.place (listed_of o) here.book) s.capacity ∙ ap (λ m. attempt time room m (listed_of o) here.book) came.placed

      book_after : after.book ≡ tries.book
      book_after = tried.book ∙ ap (λ (a : Attempt). a.book) tries_are

      abbrev calls_after : List Call
      calls_after = s.calls ++ tries.calls

      ran_after : after.book ≡ (run room calls_after before.book).book
      ran_after =
          book_after
          ∙ attempt_runs time room place (listed_of o) here.book
          ∙ ap (λ (b : RuleBook). (run room tries.calls b).book) s.ran
          ∙ sym (run_append room s.calls tries.calls before.book)

      abbrev load_after : Load
      load_after = load_with calls_after n s.slips after.book

      abbrev turns_left : ℕ
      turns_left = s.turns - 1

      enough_left : length left ≤ turns_left
      enough_left = omega (arith, s.enough, came.shorter)

      -- the definition after the order, once its fault is known
      stepped : (fault : Option LoadFault) → fault_of r ≡ fault
          → load_into before roll time register
          ≡ go_on (accounted (room_left roll) place fault load_after).stop (accounted (room_left roll) place fault load_after).load (load_on time room (room_left roll) turns_left (length register) left)
      stepped fault told =
          let turn : s.turns ≡ suc turns_left = omega (arith, s.enough, came.shorter) in
          let found : tries.fault ≡ fault = sym (tried.fault ∙ ap (λ (a : Attempt). a.fault) tries_are) ∙ told in
          let more = load_on time room (room_left roll) turns_left (length register) left in
          s.same
          ∙ ap (λ m. load_on time room (room_left roll) m (length register) rest so_far) turn
          ∙ load_order time room (room_left roll) (length register) rest so_far turns_left (record { order = listed_of o; rest = left }) came.read
          ∙ ended_on _ _ more
          (ap (λ f. accounted (room_left roll) place f (with_attempt tries so_far)) found
          ∙ ap (λ b. accounted (room_left roll) place fault (load_with calls_after n s.slips b)) (sym book_after))

      pub so_far_entered : fault_of r ≡ None → SoFar after roll_here left (n + 1) k
      so_far_entered told =
          record {
            calls = calls_after;
            slips = s.slips;
            turns = turns_left;
            enough = enough_left;
            same = stepped None told;
            ran = ran_after;
            put = s.put;
            count = s.count;
            capacity = tried.capacity ∙ s.capacity;
          }

      module _ (fault : LoadFault) (told : fault_of r ≡ Some fault) where
        pub so_far_slipped : (roll_after : Roll Slip) → Pushed roll_here roll_after (slip_of fault) → SoFar after roll_after left n (k + 1)
        so_far_slipped roll_after pushed =
            let more = load_on time room (room_left roll) turns_left (length register) left in
            let free : ltb (length s.slips) (room_left roll) ≡ true = lt-ltb (length s.slips) (room_left roll) (omega (arith, pushed.free, s.put.free)) in
            let long = length-append s.slips (slip_of fault ∷ []) in
            record {
              calls = calls_after;
              slips = s.slips ++ (slip_of fault ∷ []);
              turns = turns_left;
              enough = enough_left;
              same = stepped (Some fault) told ∙ ended_on _ _ more (ap (slip_put place fault load_after) free);
              ran = ran_after;
              put = one_added roll roll_here roll_after s.slips s.put (slip_of fault) pushed;
              count = omega (arith, long, s.count);
              capacity = tried.capacity ∙ s.capacity;
            }

        pub slips_full : (roll_after : Roll Slip) → room_left roll_here ≡ 0 → roll_after ≡ roll_here → LoadedInto before after roll roll_after time register (Err (SlipsFull o.place))
        slips_full roll_after full still =
            let more = load_on time room (room_left roll) turns_left (length register) left in
            let none : ltb (length s.slips) (room_left roll) ≡ false = le-ltb (length s.slips) (room_left roll) (omega (arith, full, s.put.free)) in
            over after roll_after _ load_after (Some (SlipsFull place))
            (stepped (Some fault) told ∙ ended_on _ _ more (ap (slip_put place fault load_after) none))
            (ap (λ m. Err (SlipsFull m)) came.placed) ran_after (still_added roll roll_here roll_after s.slips s.put still) (tried.capacity ∙ s.capacity)
