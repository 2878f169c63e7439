-- What a refusal leaves: the book itself, or the book as a tick at the same time leaves it.
-- By every way through a call; a tick at the call's time passes the same three tests.
use Rattle.std.proofs.Common.{◌≡◌, ℕ, ◌+◌, true, false, leb, length, sym, refl, ap, ◌∙◌, subst, inl, inr, arith}
use Rattle.std.proofs.lemmas.Bool.{cases_Bool}
use Rattle.terms.specs.declared.time_in_force.TimeInForce.{TimeInForce}
use Rattle.terms.specs.declared.time_in_force.TimeInForce.TheVariants.{Rest, ImmediateOrCancel}
use Rattle.rules.specs.declared.refusal.Refusal.{Refusal}
use Rattle.rules.specs.declared.refusal.Refusal.TheVariants.{Time, Identifier, TapeShort}
use Rattle.rules.specs.Answers.{refused}
use Rattle.rules.specs.Laws.{after_clock, RefusalLeaves, left_by}
use Rattle.rules.specs.Calls.{refuse, Call, done_at, entry, rested, swept_in, new_order, cancel, quote, tick, names_lawfully, timely, call, Outcome, time_of}
use Rattle.rules.specs.Clock.{at_time}
use Rattle.rules.specs.Market.{Book}
use Rattle.rules.specs.Questions.{why}
use Rattle.rules.proofs.Cases.{same_refusal, Either}
use Rattle.rules.proofs.Lasting.{enter_ways, cancel_ways, call_done, call_unlawful, call_untimely, call_short}

-- what is refused once the clock is at its time leaves the book so
done_refused : (c : Call) (b : Book) (why : Refusal) → (done_at c b).answer ≡ refused why → (after_clock why ≡ true) × ((done_at c b).book ≡ b)
unfolding done_at
done_refused (entry t id w) b why =
    enter_ways (λ r. r.answer ≡ refused why → (after_clock why ≡ true) × (r.book ≡ b)) t id w b
    (λ z f e. (subst (λ v. after_clock v ≡ true) (same_refusal z why e) f, refl))
    (λ _ _. accepted w.time_in_force)
  where
    accepted : (f : TimeInForce)
        → (rested f t (b.entries + 1) w.shares (swept_in t (new_order id w (b.entries + 1)) b.market)).answer ≡ refused why
        → (after_clock why ≡ true) × ((rested f t (b.entries + 1) w.shares (swept_in t (new_order id w (b.entries + 1)) b.market)).book ≡ b)
    accepted Rest e = absurd (let z : ◌≡◌ {A = ℕ} 0 1 = cc in omega arith)
    accepted ImmediateOrCancel e = absurd (let z : ◌≡◌ {A = ℕ} 0 1 = cc in omega arith)
done_refused (cancel t id) b why =
    cancel_ways (λ r. r.answer ≡ refused why → (after_clock why ≡ true) × (r.book ≡ b)) t id b
    (λ z f e. (subst (λ v. after_clock v ≡ true) (same_refusal z why e) f, refl))
    (λ o e. absurd (let z : ◌≡◌ {A = ℕ} 0 1 = cc in omega arith))
done_refused (quote t bid offer) b why = λ e. absurd (let z : ◌≡◌ {A = ℕ} 0 1 = cc in omega arith)
done_refused (tick t) b why = λ e. absurd (let z : ◌≡◌ {A = ℕ} 0 1 = cc in omega arith)

done_tick : (t : ℕ) (b : Book) → (done_at (tick t) b).book ≡ b
unfolding done_at
done_tick t b = refl

pub refusal_leaves : (why : Refusal) → RefusalLeaves why (after_clock why)
refusal_leaves why free c b =
    by_tests (cases_Bool (names_lawfully c)) (cases_Bool (timely c b)) (cases_Bool (leb (length b.market.orders) free))
  where
    as_it_was : (z : Refusal) → after_clock z ≡ false → call free c b ≡ refuse z b → (call free c b).answer ≡ refused why
        → (call free c b).book ≡ left_by (after_clock why) free c b
    as_it_was z f p e =
        ap (λ (o : Outcome). o.book) p
        ∙ ap (λ v. left_by v free c b) (sym (subst (λ v. after_clock v ≡ false) (same_refusal z why (sym (ap (λ (o : Outcome). o.answer) p) ∙ e)) f))

    as_ticked : timely c b ≡ true → leb (length b.market.orders) free ≡ true
        → call free c b ≡ done_at c (at_time (time_of c) b) → (call free c b).answer ≡ refused why
        → (call free c b).book ≡ left_by (after_clock why) free c b
    as_ticked f g p e =
        let h = done_refused c (at_time (time_of c) b) why (sym (ap (λ (o : Outcome). o.answer) p) ∙ e) in
        ap (λ (o : Outcome). o.book) p
        ∙ h.1
        ∙ sym (done_tick (time_of c) (at_time (time_of c) b))
        ∙ sym (ap (λ (o : Outcome). o.book) (call_done free (tick (time_of c)) b refl f g))
        ∙ ap (λ v. left_by v free c b) (sym h.0)

    by_tests : Either (names_lawfully c) → Either (timely c b) → Either (leb (length b.market.orders) free)
        → (call free c b).answer ≡ refused why → (call free c b).book ≡ left_by (after_clock why) free c b
    by_tests (inr e) f g = as_it_was Identifier refl (call_unlawful free c b e)
    by_tests (inl e) (inr f) g = as_it_was Time refl (call_untimely free c b e f)
    by_tests (inl e) (inl f) (inr g) = as_it_was TapeShort refl (call_short free c b e f g)
    by_tests (inl e) (inl f) (inl g) = as_ticked f g (call_done free c b e f g)
