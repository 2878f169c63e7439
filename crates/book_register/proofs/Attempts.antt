-- One order: what a refused ticket, and an entry, make of a book. Cite no_ticket, ticketed, refused_so, pushed_so and full_so.
use Rattle.std.proofs.Common.{◌≡◌, ℕ, Some, Ok, Err, Result, sym, refl, ap, ◌∙◌, arith}
use Rattle.std.specs.Prelude.{MatchResult}
use Rattle.terms.specs.Terms.{OrderTerms}
use Rattle.register.specs.declared.fault.Fault.{Fault}
use Rattle.register.specs.Faults.{listed_ticket}
use Rattle.register.specs.Layout.{Listed}
use Rattle.rules.specs.Answers.{Answer}
use Rattle.rules.specs.Calls.{entry}
use Rattle.book.specs.declared.refusal.Rejected.{Rejected}
use Rattle.book.specs.Running.{Running, answer_to, after}
use Rattle.book.specs.Carried.{entry_told}
use Rattle.book_register.specs.declared.load.LoadFault.{LoadFault}
use Rattle.book_register.specs.declared.load.LoadFault.TheVariants.{Register, Book, SlipsFull}
use Rattle.book_register.specs.Loads.{Attempt, entry_fault, attempt_with}
use Rattle.book_register.specs.Loaded.{fault_of, attempt_at, Attempted}

-- an entry that was refused leaves the fault of the refusal
pub refused_so : (place : ℕ) (f : LoadFault) (r : Result (ℕ × ℕ × ℕ) Rejected) (Says : Rejected → Type 0) → MatchResult r (λ v. Err f ≡ Ok v) Says → ((e : Rejected) → Says e → f ≡ Book e.why place) → Some f ≡ entry_fault place (entry_told r)
refused_so place f (Ok v) Says h so = absurd (grind (arith, h))
refused_so place f (Err e) Says h so = ap (λ x. Some x) (so e h)

-- what holds where a slip was put
pub pushed_so : {U E P : Type 0} (r : Result U E) (Says : U → Type 0) (Q : E → Type 0) → MatchResult r Says (λ _. ⊥) → MatchResult r (λ _. P) Q → P
pushed_so (Ok v) Says Q h p = p
pushed_so (Err e) Says Q h p = absurd h

-- what holds where it found no place, and the fault that is left
pub full_so : {U E : Type 0} (place : ℕ) (f : LoadFault) (r : Result U E) (Put : U → Type 0) (Says Q : E → Type 0) → MatchResult r (λ v. Err f ≡ Ok v) Says → ((e : E) → Says e → f ≡ SlipsFull place) → MatchResult r Put Q → ((e : E) × Q e) × (f ≡ SlipsFull place)
full_so place f (Ok v) Put Says Q h so p = absurd (grind (arith, h))
full_so place f (Err e) Put Says Q h so p = ((e, p), so e h)

module _ (time place : ℕ) (o : Listed) where
  pub no_ticket : (b : Running) (e : Fault) → Err e ≡ listed_ticket place o.draft → Attempted b b time place o (Err (Register e))
  no_ticket b e h =
      let same : attempt_at b time place o ≡ attempt_with time b.room place o b.book (Err e) = ap (attempt_with time b.room place o b.book) (sym h) in
      record {
        fault = sym (ap (λ (a : Attempt). a.fault) same);
        book = sym (ap (λ (a : Attempt). a.book) same);
        capacity = refl;
      }

  pub ticketed : (b later : Running) (w : OrderTerms) (r : Result (Unit {0}) LoadFault) (a : Answer) → Ok w ≡ listed_ticket place o.draft → fault_of r ≡ entry_fault place a
      → a ≡ answer_to b (entry time o.identifier w) → later ≡ after b (entry time o.identifier w) → Attempted b later time place o r
  ticketed b later w r a h told answer book =
      let same : attempt_at b time place o ≡ attempt_with time b.room place o b.book (Ok w) = ap (attempt_with time b.room place o b.book) (sym h) in
      record {
        fault = told ∙ ap (entry_fault place) answer ∙ sym (ap (λ (z : Attempt). z.fault) same);
        book = ap (λ (s : Running). s.book) book ∙ sym (ap (λ (z : Attempt). z.book) same);
        capacity = ap (λ (s : Running). s.room) book;
      }
