-- An entry, once the clock is at its time: its tests, and the new row's number and place. Cite name_test for the directory's
-- part of the tests, entry_refused and entry_passed for what follows of them, newest_counted for the new row's number.
use Rattle.std.proofs.Common.{◌≡◌, ℕ, ◌+◌, ◌≤◌, Bool, true, false, leb, ◌⊎◌, List, [], ◌∷◌, map, is_some, Some, None, Ok, Err, Option, Result, sym, refl, ap, ◌∙◌, inl, inr, arith}
use Rattle.std.specs.Prelude.{if◌then◌else◌}
use Rattle.std.specs.List.{AllByRecursion as Every}
use Rattle.terms.specs.Terms.{OrderTerms}
use Rattle.rules.specs.declared.refusal.Refusal.{Refusal}
use Rattle.rules.specs.declared.refusal.Refusal.TheVariants.{NameTaken, BookFull, EntriesSpent}
use Rattle.rules.specs.Limits.{most_entries}
use Rattle.rules.specs.Market.{Order, Book}
use Rattle.rules.specs.Calls.{Outcome, refuse, entry, named, no_place, new_order, swept_in, rested, done_at}
use Rattle.rules.proofs.Cases.{option_cases}
use Rattle.market.specs.declared.table.Row.{Row}
use Rattle.market.specs.Rows.{row_order, rising, orders_in}
use Rattle.market.specs.Changes.{AllRest, newest_number}
use Rattle.book.specs.Tied.{number_named}
use Rattle.book.specs.Entering.{numbered_unless, entry_test}
use Rattle.book.proofs.Named.{found_none, found_some}

pub name_test : (id : List ℕ) (rs : List Row) → AllRest rs → rising 0 rs ≡ true → is_some (number_named id rs) ≡ is_some (named id (orders_in rs))
name_test id rs all up = by (option_cases (number_named id rs))
  where
    by : (number_named id rs ≡ None) ⊎ ((k : ℕ) × (number_named id rs ≡ Some k)) → is_some (number_named id rs) ≡ is_some (named id (orders_in rs))
    by (inl e) = ap is_some e ∙ sym (ap is_some (found_none id rs all e))
    by (inr k) = ap is_some k.1 ∙ sym (ap is_some (found_some id rs k.0 all up k.1).names)

-- where the tests agree, so does what follows of them
pub same_test : {a a' b b' e e' : Bool} (n : ℕ) → a ≡ a' → b ≡ b' → e ≡ e' → numbered_unless a b e n ≡ numbered_unless a' b' e' n
same_test {a} {a'} {b} {b'} {e} {e'} n p q r =
    ap (λ z. numbered_unless z b e n) p ∙ ap (λ z. numbered_unless a' z e n) q ∙ ap (λ z. numbered_unless a' b' z n) r

module _ (t : ℕ) (id : List ℕ) (w : OrderTerms) (b : Book) where
  -- the order is entered under the number k
  abbrev pub entered_as : ℕ → Outcome
  entered_as k = rested w.time_in_force t k w.shares (swept_in t (new_order id w k) b.market)

  abbrev by_result : Result ℕ Refusal → Outcome
  by_result (Ok k) = entered_as k
  by_result (Err why) = refuse why b

  by_tests : (o : Option Order) (full spent : Bool) → elim o as (λ _. Outcome) [
    | Some _ ↦ refuse NameTaken b
    | None ↦ if full then refuse BookFull b else if spent then refuse EntriesSpent b else entered_as (b.entries + 1)
  ] ≡ by_result (numbered_unless (is_some o) full spent (b.entries + 1))
  by_tests (Some o) full spent = refl
  by_tests None true spent = refl
  by_tests None false true = refl
  by_tests None false false = refl

  tested : done_at (entry t id w) b ≡ by_result (entry_test id w b)
  unfolding done_at
  tested = by_tests (named id b.market.orders) (no_place w b.market) (leb most_entries b.entries)

  pub entry_refused : (why : Refusal) → Err why ≡ entry_test id w b → done_at (entry t id w) b ≡ refuse why b
  entry_refused why e = tested ∙ ap by_result (sym e)

  pub entry_passed : (k : ℕ) → Ok k ≡ entry_test id w b → done_at (entry t id w) b ≡ entered_as k
  entry_passed k e = tested ∙ ap by_result (sym e)

-- what a passed test tells
pub record Free (id : List ℕ) (w : OrderTerms) (b : Book) (k : ℕ) : Type 0 where
  pub name : is_some (named id b.market.orders) ≡ false
  pub place : no_place w b.market ≡ false
  pub number : k ≡ b.entries + 1

free_by : (taken full spent : Bool) (n k : ℕ) → Ok k ≡ numbered_unless taken full spent n → (taken ≡ false) × (full ≡ false) × (k ≡ n)
free_by true full spent n k e = absurd (let z : ◌≡◌ {A = ℕ} 0 1 = cc in omega arith)
free_by false true spent n k e = absurd (let z : ◌≡◌ {A = ℕ} 0 1 = cc in omega arith)
free_by false false true n k e = absurd (let z : ◌≡◌ {A = ℕ} 0 1 = cc in omega arith)
free_by false false false n k e = (refl, refl, cc)

pub test_tells : (id : List ℕ) (w : OrderTerms) (b : Book) (k : ℕ) → Ok k ≡ entry_test id w b → Free id w b k
test_tells id w b k e =
    let parts = free_by (is_some (named id b.market.orders)) (no_place w b.market) (leb most_entries b.entries) (b.entries + 1) k e in
    record { name = parts.0; place = parts.1; number = parts.2 }

-- the newest row is not above the count of entries
pub newest_counted : (low n : ℕ) (rs : List Row) → low ≤ n → Every (λ (o : Order). o.number ≤ n) (map row_order rs) → newest_number low rs ≤ n
newest_counted low n [] le all = le
newest_counted low n (r ∷ rs) le all = newest_counted r.number n rs all.0 all.1
