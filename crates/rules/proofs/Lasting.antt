-- The inductions, once for all laws: what lasts over a line lasts over a sweep, over sweeps, over a settling; what lasts
-- over each call's parts lasts over whole runs. An invariant is then only its step.
-- Cite: lines_keep, sweep_keep, each_keep, ends_keep; Lasts and run_lasts for an invariant of the market, run_keeps for one
-- of the book; call_ways, enter_ways, cancel_ways for what holds of every way through a call.
-- what lasts from line to line lasts over a sweep
use Rattle.std.proofs.Common.{◌≡◌, ℕ, zero, suc, ◌+◌, ◌<◌, ◌≤◌, true, false, leb, List, [], ◌∷◌, length, Some, None, refl, ap, ◌∙◌, subst}
use Rattle.std.proofs.lemmas.Bool.{leb-false, leb-true, and_parts}
use Rattle.std.specs.Prelude.{not}
use Rattle.terms.specs.Terms.{OrderTerms}
use Rattle.terms.specs.declared.side.Side.{Side}
use Rattle.terms.specs.declared.time_in_force.TimeInForce.{TimeInForce}
use Rattle.terms.specs.declared.time_in_force.TimeInForce.TheVariants.{ImmediateOrCancel, Rest}
use Rattle.rules.specs.declared.refusal.Refusal.{Refusal}
use Rattle.rules.specs.declared.refusal.Refusal.TheVariants.{NameTaken, BookFull, EntriesSpent, NoSuchOrder, Identifier, Time, TapeShort}
use Rattle.rules.specs.Answers.{cancelled}
use Rattle.rules.specs.Laws.{after_clock}
use Rattle.rules.specs.Calls.{Outcome, refuse, no_place, rested, swept_in, new_order, enter_at, named, cancel, cancel_at, call, Call, time_of, done_at, names_lawfully, timely, quote, requoted, entry, tick}
use Rattle.rules.specs.Clock.{due, end_period, end_periods, at_time, settle}
use Rattle.rules.specs.Limits.{most_entries}
use Rattle.rules.specs.Market.{Market, Order, resting, reach_in, Book, with_orders, without}
use Rattle.rules.specs.Priority.{partner_for}
use Rattle.rules.specs.Runs.{run}
use Rattle.rules.specs.Sweep.{lines, trade, sweep, sweep_each}
use Rattle.rules.proofs.Cases.{option_both, if_both, if_false, if_true, not_true}

pub lines_keep : (P : Market → Type 0) (t p : ℕ) (o : Order)
    → ((m : Market) (row x : Order) → resting o.number m.orders ≡ Some row → partner_for o p m ≡ Some x → P m → P (trade t p row x m))
    → (n : ℕ) (m : Market) → P m → P (lines n t p o m)
unfolding lines
lines_keep P t p o step zero m h = h
lines_keep P t p o step (suc n) m h =
    option_both (resting o.number m.orders) m
    (λ row. elim (partner_for o p m) [ None ↦ m | Some x ↦ lines n t p o (trade t p row x m) ]) P
    (λ _. h)
    (λ row e. option_both (partner_for o p m) m (λ x. lines n t p o (trade t p row x m)) P (λ _. h)
    (λ x f. lines_keep P t p o step n (trade t p row x m) (step m row x e f h)))

pub sweep_keep : (P : Market → Type 0) (t : ℕ)
    → ((p : ℕ) (o x : Order) (m : Market) → P m → P (trade t p o x m))
    → (o : Order) (m : Market) → P m → P (sweep t o m)
unfolding sweep
sweep_keep P t step o m h =
    lines_keep P t (reach_in m o) o (λ r row x _ _ g. step (reach_in m o) row x r g) (length m.orders) m h

pub each_keep : (P : Market → Type 0) (t : ℕ)
    → ((p : ℕ) (o x : Order) (m : Market) → P m → P (trade t p o x m))
    → (os : List Order) (m : Market) → P m → P (sweep_each t os m)
unfolding sweep_each
each_keep P t step [] m h = h
each_keep P t step (o ∷ os) m h = each_keep P t step os (sweep t o m) (sweep_keep P t step o m h)

-- what lasts over the end of each period lasts over the settling
pub ends_keep : (P : Market → Type 0) (t : ℕ) → ((d : Side × ℕ) (m : Market) → due t m ≡ Some d → P m → P (end_period d m))
    → (n : ℕ) (m : Market) → P m → P (end_periods n t m)
unfolding end_periods
ends_keep P t step zero m h = h
ends_keep P t step (suc n) m h =
    option_both (due t m) m (λ d. end_periods n t (end_period d m)) P (λ _. h) (λ d e. ends_keep P t step n (end_period d m) (step d m e h))

-- Every way through a call

-- an entry, once the clock is at its time: refused, or accepted
pub enter_ways : (P : Outcome → Type 0) (t : ℕ) (id : List ℕ) (w : OrderTerms) (b : Book)
    → ((why : Refusal) → after_clock why ≡ true → P (refuse why b))
    → (no_place w b.market ≡ false → b.entries < most_entries
    → P (rested w.time_in_force t (b.entries + 1) w.shares (swept_in t (new_order id w (b.entries + 1)) b.market)))
    → P (enter_at t id w b)
enter_ways P t id w b declined accepted =
    option_both (named id b.market.orders) _ (λ _. refuse NameTaken b) P
    (λ _. if_both (no_place w b.market) (refuse BookFull b) _ P (λ _. declined BookFull refl)
    (λ e. if_both (leb most_entries b.entries) (refuse EntriesSpent b) _ P (λ _. declined EntriesSpent refl)
    (λ f. accepted e (leb-false most_entries b.entries f))))
    (λ _ _. declined NameTaken refl)

pub cancel_ways : (P : Outcome → Type 0) (t : ℕ) (id : List ℕ) (b : Book)
    → ((why : Refusal) → after_clock why ≡ true → P (refuse why b))
    → ((o : Order) → P (record { answer = cancelled o.left; book = record { market = with_orders (without o.number b.market.orders) b.market; clock = t; entries = b.entries } }))
    → P (cancel_at t id b)
cancel_ways P t id b declined accepted =
    option_both (named id b.market.orders) (refuse NoSuchOrder b) _ P (λ _. declined NoSuchOrder refl) (λ o _. accepted o)

-- any call: refused before the clock moves, or carried on with the clock at its time
pub call_ways : (P : Outcome → Type 0) (free : ℕ) (c : Call) (b : Book)
    → ((why : Refusal) → after_clock why ≡ false → P (refuse why b))
    → (b.clock ≤ time_of c → P (done_at c (at_time (time_of c) b)))
    → P (call free c b)
unfolding call
call_ways P free c b declined accepted =
    if_both (not (names_lawfully c)) (refuse Identifier b) _ P (λ _. declined Identifier refl)
    (λ _. if_both (not (timely c b)) (refuse Time b) _ P (λ _. declined Time refl)
    (λ e. if_both (not (leb (length b.market.orders) free)) (refuse TapeShort b) (done_at c (at_time (time_of c) b)) P
    (λ _. declined TapeShort refl)
    (λ _. accepted (leb-true b.clock (time_of c) (and_parts (leb b.clock (time_of c)) _ (not_true (timely c b) e)).0))))

pub at_time_clock : (u : ℕ) (b : Book) → (at_time u b).clock ≡ u
unfolding at_time
at_time_clock u b = refl

pub at_time_entries : (u : ℕ) (b : Book) → (at_time u b).entries ≡ b.entries
unfolding at_time
at_time_entries u b = refl

-- a call by what its tests say
pub call_unlawful : (free : ℕ) (d : Call) (b : Book) → names_lawfully d ≡ false → call free d b ≡ refuse Identifier b
unfolding call
call_unlawful free d b e = if_true (not (names_lawfully d)) (refuse Identifier b) _ (ap not e)

pub call_untimely : (free : ℕ) (d : Call) (b : Book) → names_lawfully d ≡ true → timely d b ≡ false → call free d b ≡ refuse Time b
unfolding call
call_untimely free d b e f = if_false (not (names_lawfully d)) (refuse Identifier b) _ (ap not e) ∙ if_true (not (timely d b)) (refuse Time b) _ (ap not f)

pub call_short : (free : ℕ) (d : Call) (b : Book) → names_lawfully d ≡ true → timely d b ≡ true
    → leb (length b.market.orders) free ≡ false → call free d b ≡ refuse TapeShort b
unfolding call
call_short free d b e f g =
    if_false (not (names_lawfully d)) (refuse Identifier b) _ (ap not e) ∙ if_false (not (timely d b)) (refuse Time b) _ (ap not f) ∙ if_true (not (leb (length b.market.orders) free)) (refuse TapeShort b) _ (ap not g)

pub call_done : (free : ℕ) (d : Call) (b : Book) → names_lawfully d ≡ true → timely d b ≡ true
    → leb (length b.market.orders) free ≡ true → call free d b ≡ done_at d (at_time (time_of d) b)
unfolding call
call_done free d b e f g =
    if_false (not (names_lawfully d)) (refuse Identifier b) _ (ap not e) ∙ if_false (not (timely d b)) (refuse Time b) _ (ap not f) ∙ if_false (not (leb (length b.market.orders) free)) (refuse TapeShort b) _ (ap not g)

-- Whole runs

-- what lasts over settling and over what a call then does
module _ (P : Book → Type 0)
    (settles : (u : ℕ) (b : Book) → b.clock ≤ u → P b → P (at_time u b))
    (does : (c : Call) (b : Book) → b.clock ≡ time_of c → P b → P (done_at c b).book) where
  pub call_keeps : (free : ℕ) (c : Call) (b : Book) → P b → P (call free c b).book
  call_keeps free c b h =
      call_ways (λ r. P r.book) free c b (λ _ _. h)
      (λ l. does c (at_time (time_of c) b) (at_time_clock (time_of c) b) (settles (time_of c) b l h))

  pub run_keeps : (room : ℕ) (cs : List Call) (b : Book) → P b → P (run room cs b).book
  unfolding run
  run_keeps room [] b h = h
  run_keeps room (c ∷ cs) b h = run_keeps room cs _ (call_keeps _ c b h)

-- P t n m: of the market m of a book with the clock at t and n entries
pub record Lasts (P : ℕ → ℕ → Market → Type 0) : Type 0 where
  pub fewer : (t n k : ℕ) (m : Market) → P t n m → P t n (with_orders (without k m.orders) m)
  pub enter : (t n : ℕ) (o : Order) (m : Market) → o.number ≡ n + 1 → o.left ≡ o.terms.shares → P t n m → P t (n + 1) (swept_in t o m)
  pub quote : (t n bid offer : ℕ) (m : Market) → P t n m → P t n (requoted t bid offer m)

module _ (P : ℕ → ℕ → Market → Type 0) (l : Lasts P) where
  abbrev Of : Book → Type 0
  Of b = P b.clock b.entries b.market

  rested_lasts : (f : TimeInForce) (t k n : ℕ) (m : Market) → P t k m → Of (rested f t k n m).book
  rested_lasts ImmediateOrCancel t k n m h = l.fewer t k k m h
  rested_lasts Rest t k n m h = h

  pub done_lasts : (c : Call) (b : Book) → b.clock ≡ time_of c → Of b → Of (done_at c b).book
  unfolding done_at
  done_lasts (entry t id w) b e h =
      let g : P t b.entries b.market = subst (λ z. P z b.entries b.market) e h in
      enter_ways (λ r. Of r.book) t id w b (λ _ _. h)
      (λ _ _. rested_lasts w.time_in_force t (b.entries + 1) w.shares _ (l.enter t b.entries (new_order id w (b.entries + 1)) b.market refl refl g))
  done_lasts (cancel t id) b e h =
      let g : P t b.entries b.market = subst (λ z. P z b.entries b.market) e h in
      cancel_ways (λ r. Of r.book) t id b (λ _ _. h) (λ o. l.fewer t b.entries o.number b.market g)
  done_lasts (quote t bid offer) b e h =
      l.quote t b.entries bid offer b.market (subst (λ z. P z b.entries b.market) e h)
  done_lasts (tick t) b e h = h

  at_time_lasts : ((t n u : ℕ) (m : Market) → t ≤ u → P t n m → P u n (settle u m)) → (u : ℕ) (b : Book) → b.clock ≤ u → Of b → Of (at_time u b)
  unfolding at_time
  at_time_lasts later u b e h = later b.clock b.entries u b.market e h

  pub call_lasts : ((t n u : ℕ) (m : Market) → t ≤ u → P t n m → P u n (settle u m)) → (free : ℕ) (c : Call) (b : Book)
      → Of b → Of (call free c b).book
  call_lasts later = call_keeps Of (at_time_lasts later) done_lasts

  pub run_lasts : ((t n u : ℕ) (m : Market) → t ≤ u → P t n m → P u n (settle u m)) → (room : ℕ) (cs : List Call) (b : Book)
      → Of b → Of (run room cs b).book
  run_lasts later = run_keeps Of (at_time_lasts later) done_lasts
