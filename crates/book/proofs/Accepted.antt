-- An entry that passes its tests: the book is ready for its row, and once the row is swept the entry is carried out. Cite ready,
-- has_place and accepted.
use Rattle.std.proofs.Common.{◌≡◌, ℕ, ◌<◌, ◌≤◌, Bool, true, false, not, ◌&&◌, leb, List, length, is_some, Some, None, Ok, vec_items, Option, sym, refl, ap, ◌∙◌, subst, arith}
use Rattle.std.specs.List.{AllByRecursion as Every}
use Rattle.std.proofs.lemmas.Bool.{leb-false}
use Rattle.terms.specs.declared.time_in_force.TimeInForce.{TimeInForce}
use Rattle.terms.specs.declared.time_in_force.TimeInForce.TheVariants.{Rest, ImmediateOrCancel}
use Rattle.terms.specs.Terms.{OrderTerms, is_ioc}
use Rattle.tape.specs.declared.line.Line.{Line}
use Rattle.tape.specs.declared.tape.Tape.{Ghosts as TapeOf}
use Rattle.directory.specs.declared.directory.Directory.{Ghosts as DirectoryOf}
use Rattle.rules.specs.Limits.{most_resting}
use Rattle.rules.specs.Market.{Order, Market, Book}
use Rattle.rules.specs.Answers.{entered}
use Rattle.rules.specs.Calls.{Outcome, entry, new_order, swept_in, rested, done_at}
use Rattle.rules.proofs.Numbers.{numbers_ascend, orders_within_places}
use Rattle.market.specs.declared.table.Row.{Row}
use Rattle.market.specs.Rows.{row_order}
use Rattle.market.specs.Changes.{newest_number}
use Rattle.market.specs.Markets.{capacity_of}
use Rattle.book.specs.declared.engine.Engine.{Engine}
use Rattle.book.specs.Tied.{row_name}
use Rattle.book.specs.Running.{book_of, Sound}
use Rattle.book.specs.Carried.{Carried, Brought}
use Rattle.book.specs.Entering.{entry_test, Ready, HasPlace, Entered}
use Rattle.book.proofs.Alike.{same_book}
use Rattle.book.proofs.Calling.{tick_carried, carried_on}
use Rattle.book.proofs.EntryTests.{name_test, entered_as, entry_passed, test_tells, newest_counted}

-- the book, once the entry is counted
abbrev pub counting : {D T : Type 0} → ℕ → Engine D T → Engine D T
counting k b = record { directory = b.directory; market = b.market; clock = b.clock; entries = k }

-- what lapses leaves no trace on the tape
rested_tape : (f : TimeInForce) (t k n : ℕ) (m : Market) → (rested f t k n m).book.market.tape ≡ m.tape
rested_tape Rest t k n m = refl
rested_tape ImmediateOrCancel t k n m = refl

rested_clock : (f : TimeInForce) (t k n : ℕ) (m : Market) → (rested f t k n m).book.clock ≡ t
rested_clock Rest t k n m = refl
rested_clock ImmediateOrCancel t k n m = refl

rested_entries : (f : TimeInForce) (t k n : ℕ) (m : Market) → (rested f t k n m).book.entries ≡ k
rested_entries Rest t k n m = refl
rested_entries ImmediateOrCancel t k n m = refl

few_by : (full : Bool) → (full && true) ≡ false → full ≡ false
few_by true e = e
few_by false e = refl

none_by : {A : Type 0} (o : Option A) → is_some o ≡ false → o ≡ None
none_by None e = refl
none_by (Some a) e = absurd (let z : ◌≡◌ {A = ℕ} 0 1 = cc in omega arith)

module _ {D T : Type 0} (d : DirectoryOf D) (t : TapeOf T) (b mid : Engine D T) (time k : ℕ) (w : OrderTerms) (r : Row) where
  abbrev id : List ℕ
  id = row_name r

  abbrev here : Book
  here = book_of t mid

  module _ (sound : Sound d t b) (brought : Brought d t b mid time) (test : Ok k ≡ entry_test id w here)
      (own : row_order r ≡ new_order id w k) where
    there : Sound d t mid
    there = (tick_carried d t b mid time (Ok tt) sound brought).sound

    newest_below : newest_number 0 (vec_items mid.market.table.rows) ≤ mid.entries
    newest_below =
        let r = there.reached in
        let law = (numbers_ascend r.bid r.offer (capacity_of t mid.market) r.calls).1 in
        let all : Every (λ (o : Order). o.number ≤ mid.entries) here.market.orders =
        subst (λ (z : Book). Every (λ (o : Order). o.number ≤ z.entries) z.market.orders) (sym r.is) law
        in
        newest_counted 0 mid.entries (vec_items mid.market.table.rows) (omega arith)
        (subst (λ (os : List Order). Every (λ (o : Order). o.number ≤ mid.entries) os) (sym brought.rests.orders) all)

    few_rest : length (vec_items mid.market.table.rows) < 65
    few_rest =
        let within : length here.market.orders ≤ most_resting =
        let r = there.reached in
        subst (λ (z : Book). length z.market.orders ≤ most_resting) (sym r.is) (orders_within_places r.bid r.offer (capacity_of t mid.market) r.calls)
        in
        omega (arith, within, brought.rests.count)

    pub ready : 0 < w.shares → Ready d t (counting k mid) time r
    ready some =
        let number : r.number ≡ k = ap (λ (o : Order). o.number) own in
        let left : r.left ≡ w.shares = ap (λ (o : Order). o.left) own in
        let counted = (test_tells id w here k test).number in
        let tape : (done_at (entry time id w) here).book.market.tape ≡ (swept_in time (row_order r) here.market).tape =
        ap (λ (o : Outcome). o.book.market.tape) (entry_passed time id w here k test)
        ∙ rested_tape w.time_in_force time k w.shares (swept_in time (new_order id w k) here.market)
        ∙ ap (λ (o : Order). (swept_in time o here.market).tape) (sym own)
        in
        record {
          day = brought.day;
          tied = brought.tied;
          rests = brought.rests;
          joins = record { free = few_rest; newest = omega (arith, newest_below, counted, number); some = omega (arith, some, left) };
          lines = subst (λ (ls : List Line). length ls ≤ capacity_of t mid.market) tape (brought.lines (entry time id w) refl r.identifier.lawful);
        }

    pub has_place : w.time_in_force ≡ Rest → HasPlace d (counting k mid) r
    has_place rests =
        let free = test_tells id w here k test in
        let few : leb most_resting (length here.market.orders) ≡ false =
        few_by (leb most_resting (length here.market.orders)) (ap (λ f. leb most_resting (length here.market.orders) && not (is_ioc f)) (sym rests) ∙ free.place)
        in
        record {
          fresh =
              none_by (d.number mid.directory id)
              (ap is_some (brought.tied.known id) ∙ name_test id (vec_items mid.market.table.rows) brought.rests mid.market.table.ascending ∙ free.name);
          free = omega (arith, leb-false most_resting (length here.market.orders) few, brought.tied.counted, brought.rests.count);
        }

    pub accepted : (after : Engine D T) (v : ℕ × ℕ × ℕ) → Entered d t (counting k mid) after (rested w.time_in_force time r.number r.left (swept_in time (row_order r) here.market)) v → Carried d t b after (entry time id w) (entered v.0 v.1 v.2)
    accepted after v done =
        let same : rested w.time_in_force time r.number r.left (swept_in time (row_order r) here.market) ≡ entered_as time id w here k =
        ap (λ (o : Order). rested w.time_in_force time o.number o.left (swept_in time o here.market)) own
        in
        let so = same ∙ sym (entry_passed time id w here k test) in
        let swept = swept_in time (new_order id w k) here.market in
        carried_on d t b mid after (entry time id w) (entered v.0 v.1 v.2) sound brought r.identifier.lawful
        (done.answer ∙ ap (λ (o : Outcome). o.answer) so)
        (same_book (done.market ∙ ap (λ (o : Outcome). o.book.market) same)
        (done.clock ∙ brought.clock ∙ sym (rested_clock w.time_in_force time k w.shares swept))
        (done.entries ∙ sym (rested_entries w.time_in_force time k w.shares swept))
        ∙ sym (ap (λ (o : Outcome). o.book) (entry_passed time id w here k test)))
        (record { tied = done.tidied.tied; rests = done.tidied.rests; capacity = done.tidied.capacity })
