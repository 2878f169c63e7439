-- What every call has in common: the refusals before the clock moves, room for the lines that it writes, and the run that goes
-- on by one call. Cite early for a refusal before the clock moves, begun_refused and begun for the start of a call, carried_on
-- for its end.
use Rattle.std.specs.Prelude.{if◌then◌else◌}
use Rattle.std.proofs.Common.{◌≡◌, ℕ, ◌+◌, ◌-◌, ◌≤◌, Bool, true, false, leb, List, [], ◌∷◌, ◌++◌, length, Some, None, Ok, Err, vec_items, Result, sym, refl, ap, ◌∙◌, subst, arith}
use Rattle.std.proofs.lemmas.Bool.{leb-true, and_parts}
use Rattle.tape.specs.declared.tape.Tape.{Ghosts as TapeOf}
use Rattle.directory.specs.declared.directory.Directory.{Ghosts as DirectoryOf}
use Rattle.rules.specs.declared.refusal.Refusal.{Refusal}
use Rattle.rules.specs.declared.refusal.Refusal.TheVariants.{Time, TapeShort, NoSuchOrder}
use Rattle.rules.specs.Limits.{last_moment}
use Rattle.rules.specs.Market.{Order, Book, with_orders, without}
use Rattle.rules.specs.Clock.{settle, at_time}
use Rattle.rules.specs.Answers.{Answer, cancelled, ticked, refused}
use Rattle.rules.specs.Calls.{Call, cancel, tick, Outcome, refuse, named, done_at, time_of, names_lawfully, timely, call}
use Rattle.rules.specs.Runs.{Run, opened, run}
use Rattle.rules.proofs.Cases.{option_none, option_some}
use Rattle.rules.proofs.Runs.{run_push}
use Rattle.rules.proofs.Lasting.{call_untimely, call_short, call_done, at_time_clock}
use Rattle.rules.proofs.Count.{lines_within_orders}
use Rattle.market.specs.Changes.{AllRest}
use Rattle.market.specs.Markets.{market_of, capacity_of, HasRoom, CanFollow}
use Rattle.book.specs.declared.engine.Engine.{Engine}
use Rattle.book.specs.Running.{book_of, BookTied, Reached, Sound, running}
use Rattle.book.specs.Carried.{outcome_of, Carried, Tidied, Brought, Begun, time_and_tape, tick_answer}

-- what the two tests tell
pub record Passed (free : ℕ) (c : Call) (b : Book) : Type 0 where
  pub time : timely c b ≡ true
  pub room : leb (length b.market.orders) free ≡ true

-- what a test says of the call: it is refused so, or it goes on
abbrev pub Judged : ℕ → Call → Book → Result (Unit {0}) Refusal → Type 0
Judged free c b (Ok u) = Passed free c b
Judged free c b (Err why) = names_lawfully c ≡ true → call free c b ≡ refuse why b

module _ (free : ℕ) (c : Call) (b : Book) where
  by_tests : (on_time : Bool) → timely c b ≡ on_time → (room : Bool) → leb (length b.market.orders) free ≡ room → Judged free c b (if on_time then (if room then Ok tt else Err TapeShort) else Err Time)
  by_tests false e room f = λ named. call_untimely free c b named e
  by_tests true e false f = λ named. call_short free c b named e f
  by_tests true e true f = record { time = e; room = f }

  pub judged : (x : Result (Unit {0}) Refusal) → x ≡ time_and_tape free (time_of c) b → Judged free c b x
  judged x h = subst (Judged free c b) (sym h) (by_tests (timely c b) refl (leb (length b.market.orders) free) refl)

-- a cancel, once the clock is at its time
pub cancel_none : (t : ℕ) (id : List ℕ) (b : Book) → named id b.market.orders ≡ None → done_at (cancel t id) b ≡ refuse NoSuchOrder b
unfolding done_at
cancel_none t id b e = option_none (named id b.market.orders) (refuse NoSuchOrder b) _ e

abbrev pub cancelled_out : ℕ → Order → Book → Outcome
cancelled_out t o b =
    record {
      answer = cancelled o.left;
      book = record { market = with_orders (without o.number b.market.orders) b.market; clock = t; entries = b.entries };
    }

pub cancel_some : (t : ℕ) (id : List ℕ) (b : Book) (o : Order) → named id b.market.orders ≡ Some o → done_at (cancel t id) b ≡ cancelled_out t o b
unfolding done_at
cancel_some t id b o e = option_some (named id b.market.orders) (refuse NoSuchOrder b) (λ z. cancelled_out t z b) o e

module _ {D T : Type 0} (d : DirectoryOf D) (t : TapeOf T) where
  -- a refusal before the clock moves leaves everything as it was
  pub early : (b : Engine D T) (c : Call) (why : Refusal) → outcome_of t b c ≡ refuse why (book_of t b) → Sound d t b → Carried d t b b c (refused why)
  early b c why e sound =
      record {
        answer = sym (ap (λ (o : Outcome). o.answer) e);
        book = sym (ap (λ (o : Outcome). o.book) e);
        sound = sound;
        capacity = refl;
      }

  -- no call writes more lines than there are orders that rest before it
  lines_few : (b : Engine D T) (c : Call) → Sound d t b → length (outcome_of t b c).book.market.tape ≤ length (t.lines b.market.tape) + length (book_of t b).market.orders
  lines_few b c sound =
      let free = t.free b.market.tape in
      let r = sound.reached in
      subst (λ (z : Book). length (call free c z).book.market.tape ≤ length z.market.tape + length z.market.orders) (sym r.is)
      (lines_within_orders r.bid r.offer (capacity_of t b.market) free r.calls c)

  -- the lines that settling writes find room
  settle_room : (b : Engine D T) (c : Call) → Sound d t b → Passed (t.free b.market.tape) c (book_of t b) → HasRoom t b.market (settle (time_of c) (market_of t b.market))
  unfolding done_at at_time
  settle_room b c sound passed =
      let free = t.free b.market.tape in
      let done = call_done free (tick (time_of c)) (book_of t b) refl passed.time passed.room in
      omega (arith, ap (λ (o : Outcome). length o.book.market.tape) done, lines_few b (tick (time_of c)) sound, leb-true _ _ passed.room)

  -- a call that is carried out, or refused once the clock is at its time
  finished : (b after : Engine D T) (c : Call) (a : Answer) → Sound d t b → a ≡ (outcome_of t b c).answer → book_of t after ≡ (outcome_of t b c).book → BookTied d after → AllRest (vec_items after.market.table.rows) → capacity_of t after.market ≡ capacity_of t b.market → Carried d t b after c a
  finished b after c a sound answer book tied rests capacity =
      record {
        answer = answer;
        book = book;
        sound = record { tied = tied; rests = rests; reached = further sound.reached };
        capacity = capacity;
      }
    where
      further : Reached (running t b) → Reached (running t after)
      further r =
          let free = t.free b.market.tape in
          let room = capacity_of t b.market in
          let before : Book = (run room r.calls (opened r.bid r.offer)).book in
          let left : free ≡ room - length before.market.tape = omega (arith, ap (λ (z : Book). length z.market.tape) r.is) in
          record {
            bid = r.bid;
            offer = r.offer;
            calls = r.calls ++ (c ∷ []);
            is =
                book
                ∙ ap (λ (z : Book). (call free c z).book) r.is
                ∙ ap (λ n. (call n c before).book) left
                ∙ sym (ap (λ (z : Run). z.book) (run_push room r.calls c (opened r.bid r.offer)))
                ∙ ap (λ n. (run n (r.calls ++ (c ∷ [])) (opened r.bid r.offer)).book) (sym capacity);
          }

  -- so do all the lines of the call
  call_room : (b : Engine D T) (c : Call) → Sound d t b → Passed (t.free b.market.tape) c (book_of t b) → HasRoom t b.market (outcome_of t b c).book.market
  call_room b c sound passed = omega (arith, lines_few b c sound, leb-true _ _ passed.room)

  pub begun_refused : (b : Engine D T) (time : ℕ) (why : Refusal) → Err why ≡ time_and_tape (t.free b.market.tape) time (book_of t b) → Sound d t b → Begun d t b b time (Err why)
  begun_refused b time why e sound c at lawful =
      let free = t.free b.market.tape in
      early b c why (judged free c (book_of t b) (Err why) (e ∙ ap (λ n. time_and_tape free n (book_of t b)) (sym at)) lawful) sound

  -- if the tests pass, the clock may come to the time
  pub can_settle : (b : Engine D T) (time : ℕ) → Ok tt ≡ time_and_tape (t.free b.market.tape) time (book_of t b) → Sound d t b → CanFollow t b.market time (settle time)
  can_settle b time e sound =
      let passed = judged (t.free b.market.tape) (tick time) (book_of t b) (Ok tt) e in
      record { day = leb-true time last_moment (and_parts (leb b.clock time) (leb time last_moment) passed.time).1; room = settle_room b (tick time) sound passed }

  -- the clock comes to the time
  pub begun : (b after : Engine D T) (time : ℕ) → Ok tt ≡ time_and_tape (t.free b.market.tape) time (book_of t b) → Sound d t b
      → book_of t after ≡ at_time time (book_of t b)
      → Tidied d t b after → Brought d t b after time
  begun b after time e sound there tidied =
      let free = t.free b.market.tape in
      let day = (can_settle b time e sound).day in
      let ready = λ (c : Call) (at : time_of c ≡ time).
      judged free c (book_of t b) (Ok tt) (e ∙ ap (λ n. time_and_tape free n (book_of t b)) (sym at))
      in
      let done : (c : Call) → time_of c ≡ time → names_lawfully c ≡ true → outcome_of t b c ≡ done_at c (book_of t after) = λ c at lawful.
      call_done free c (book_of t b) lawful (ready c at).time (ready c at).room
      ∙ ap (λ n. done_at c (at_time n (book_of t b))) at
      ∙ ap (done_at c) (sym there)
      in
      record {
        day = day;
        clock = ap (λ (z : Book). z.clock) there ∙ at_time_clock time (book_of t b);
        done = done;
        lines = λ c at lawful.
            subst (λ n. length (done_at c (book_of t after)).book.market.tape ≤ n) (sym tidied.capacity)
            (subst (λ (o : Outcome). length o.book.market.tape ≤ capacity_of t b.market) (done c at lawful) (call_room b c sound (ready c at)));
        tied = tidied.tied sound.tied;
        rests = tidied.rests;
        capacity = tidied.capacity;
      }

  -- what the rule book does once the clock is at the time is done
  pub carried_on : (b mid after : Engine D T) (c : Call) (a : Answer) → Sound d t b → Brought d t b mid (time_of c) → names_lawfully c ≡ true
      → a ≡ (done_at c (book_of t mid)).answer → book_of t after ≡ (done_at c (book_of t mid)).book
      → Tidied d t mid after → Carried d t b after c a
  carried_on b mid after c a sound brought lawful answer book tidied =
      let so = brought.done c refl lawful in
      finished b after c a sound
      (answer ∙ sym (ap (λ (o : Outcome). o.answer) so))
      (book ∙ sym (ap (λ (o : Outcome). o.book) so))
      (tidied.tied brought.tied)
      tidied.rests
      (tidied.capacity ∙ brought.capacity)

  -- nothing is done once the clock is at the time
  idle : {b mid : Engine D T} {time : ℕ} → Brought d t b mid time → Tidied d t mid mid
  idle brought = record { tied = λ h. h; rests = brought.rests; capacity = refl }

  -- a refusal once the clock is at the time leaves the book as it is then
  pub declined : (b mid : Engine D T) (c : Call) (why : Refusal) → Sound d t b → Brought d t b mid (time_of c) → names_lawfully c ≡ true
      → done_at c (book_of t mid) ≡ refuse why (book_of t mid) → Carried d t b mid c (refused why)
  declined b mid c why sound brought lawful e =
      carried_on b mid mid c (refused why) sound brought lawful (sym (ap (λ (o : Outcome). o.answer) e)) (sym (ap (λ (o : Outcome). o.book) e)) (idle brought)

  pub tick_carried : (b after : Engine D T) (time : ℕ) (r : Result (Unit {0}) Refusal) → Sound d t b → Begun d t b after time r → Carried d t b after (tick time) (tick_answer r)
  unfolding done_at
  tick_carried b after time (Ok u) sound brought = carried_on b after after (tick time) ticked sound brought refl refl refl (idle brought)
  tick_carried b after time (Err why) sound refuses = refuses (tick time) refl refl
