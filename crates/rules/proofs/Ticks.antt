-- Ticks change nothing but the clock. Each run is compared with the run of its shared calls alone: the one book is always
-- the other, brought to a clock of its own; a shared call makes both equal, and a tick keeps that, by settle_then.
-- The law is ticks_change_only_the_clock.
use Rattle.std.proofs.Common.{◌≡◌, ℕ, ◌-◌, ◌≤◌, true, ◌&&◌, leb, ◌⊎◌, List, [], ◌∷◌, length, None, sym, refl, ap, ◌∙◌, subst, inl, inr, arith}
use Rattle.std.proofs.lemmas.Bool.{le-leb, leb-true, and_parts, cases_Bool}
use Rattle.std.specs.List.{AllByRecursion as Every}
use Rattle.terms.specs.declared.side.Side.TheVariants.{Buy, Sell}
use Rattle.rules.specs.declared.refusal.Refusal.{Refusal}
use Rattle.rules.specs.declared.refusal.Refusal.TheVariants.{TapeShort, Identifier, Time}
use Rattle.rules.specs.Answers.{refused}
use Rattle.rules.specs.Calls.{Call, done_at, time_of, Outcome, call, timely, refuse, names_lawfully, tick, entry, cancel, quote}
use Rattle.rules.specs.Clock.{at_time}
use Rattle.rules.specs.Laws.{TicksChangeOnlyTheClock}
use Rattle.rules.specs.WholeDay.{shared, answers_to_shared, TicksInTime, TapeNeverShort}
use Rattle.rules.specs.Limits.{last_moment}
use Rattle.rules.specs.Market.{Book}
use Rattle.rules.specs.Runs.{Run, run, opened}
use Rattle.rules.proofs.Cases.{Either, none_some}
use Rattle.rules.proofs.Lasting.{done_lasts, at_time_clock, call_unlawful, call_untimely, call_short, call_done}
use Rattle.rules.proofs.Periods.{Later, later_lasts}
use Rattle.rules.proofs.Settle.{settle_then, settle_still, settled}

at_time_then : (t u : ℕ) (b : Book) → t ≤ u → at_time u (at_time t b) ≡ at_time u b
unfolding at_time
at_time_then t u b l = ap (λ m. record { market = m; clock = u; entries = b.entries }) (settle_then t u b.market l)

abbrev Still : Book → Type 0
Still b = Later b.clock b.market

at_time_still : (b : Book) → Still b → at_time b.clock b ≡ b
unfolding at_time
at_time_still b h = ap (λ m. record { market = m; clock = b.clock; entries = b.entries }) (settle_still b.clock b.market h)

settled_there : (t : ℕ) (b : Book) → Still (at_time t b)
unfolding at_time
settled_there t b = settled t b.market

done_still : (d : Call) (b : Book) → Still (done_at d (at_time (time_of d) b)).book
done_still d b = done_lasts (λ t n m. Later t m) later_lasts d (at_time (time_of d) b) (at_time_clock (time_of d) b) (settled_there (time_of d) b)

-- b is the book c, brought to a clock of its own
record Behind (c b : Book) : Type 0 where
  before : c.clock ≤ b.clock
  same : b ≡ at_time b.clock c

behind_itself : (c : Book) → Still c → Behind c c
behind_itself c h = record { before = omega arith; same = sym (at_time_still c h) }

-- the run of the shared calls alone, on a tape that is never short
quiet : List Call → Book → Run
quiet [] c = record { answers = []; book = c }
quiet (d ∷ ds) c =
    let o : Outcome = call (length c.market.orders) d c in
    let r : Run = quiet ds o.book in
    record { answers = o.answer ∷ r.answers; book = r.book }

abbrev Near : Book → Book → List Call → Type 0
Near c b ds = (b.clock ≡ c.clock) ⊎ Every (λ d. b.clock ≤ time_of d) ds

record Stepped (o p : Outcome) (b c : Book) : Type 0 where
  answer : o.answer ≡ p.answer
  behind : Behind p.book o.book
  still : Still p.book
  near : (o.book.clock ≡ p.book.clock) ⊎ ((o.book ≡ b) × (p.book ≡ c))

timely_same : (d : Call) (b c : Book) → c.clock ≤ b.clock → ((b.clock ≡ c.clock) ⊎ (b.clock ≤ time_of d)) → timely d b ≡ timely d c
timely_same d b c l (inl e) = ap (λ k. leb k (time_of d) && leb (time_of d) last_moment) e
timely_same d b c l (inr e) =
    ap (λ v. v && leb (time_of d) last_moment) (le-leb b.clock (time_of d) e ∙ sym (le-leb c.clock (time_of d) (omega arith)))

timely_after : (d : Call) (b : Book) → timely d b ≡ true → b.clock ≤ time_of d
timely_after d b e = leb-true b.clock (time_of d) (and_parts (leb b.clock (time_of d)) _ e).0

timely_day : (d : Call) (b : Book) → timely d b ≡ true → time_of d ≤ last_moment
timely_day d b e = leb-true (time_of d) last_moment (and_parts (leb b.clock (time_of d)) _ e).1

-- both are at the call's time
together : (d : Call) (b c : Book) → Behind c b → b.clock ≤ time_of d → at_time (time_of d) b ≡ at_time (time_of d) c
together d b c h l = ap (at_time (time_of d)) h.same ∙ at_time_then b.clock (time_of d) c l

refused_alike : (n : Refusal) (o p : Outcome) (b c : Book) → o ≡ refuse n b → p ≡ refuse n c → Still c → Behind c b → Stepped o p b c
refused_alike n o p b c e f s h =
    subst (λ v. Stepped v p b c) (sym e) (subst (λ v. Stepped (refuse n b) v b c) (sym f)
    (record { answer = refl; behind = h; still = s; near = inr (refl, refl) }))

-- a shared call is answered alike
shared_step : (free : ℕ) (d : Call) (b c : Book) → ((call free d b).answer ≡ refused TapeShort → ⊥) → Still c → Behind c b
    → ((b.clock ≡ c.clock) ⊎ (b.clock ≤ time_of d)) → Stepped (call free d b) (call (length c.market.orders) d c) b c
shared_step free d b c n s h q =
    by_tests (cases_Bool (names_lawfully d)) (cases_Bool (timely d b)) (cases_Bool (leb (length b.market.orders) free))
  where
    same : timely d b ≡ timely d c
    same = timely_same d b c h.before q

    by_tests : Either (names_lawfully d) → Either (timely d b) → Either (leb (length b.market.orders) free)
        → Stepped (call free d b) (call (length c.market.orders) d c) b c
    by_tests (inr e) f g = refused_alike Identifier _ _ b c (call_unlawful free d b e) (call_unlawful _ d c e) s h
    by_tests (inl e) (inr f) g = refused_alike Time _ _ b c (call_untimely free d b e f) (call_untimely _ d c e (sym same ∙ f)) s h
    by_tests (inl e) (inl f) (inr g) = absurd (n (ap (λ (z : Outcome). z.answer) (call_short free d b e f g)))
    by_tests (inl e) (inl f) (inl g) =
        let o : call free d b ≡ done_at d (at_time (time_of d) c) = call_done free d b e f g ∙ ap (done_at d) (together d b c h (timely_after d b f)) in
        let p : call (length c.market.orders) d c ≡ done_at d (at_time (time_of d) c) = call_done _ d c e (sym same ∙ f) (le-leb _ _ (omega arith)) in
        subst (λ v. Stepped v (call (length c.market.orders) d c) b c) (sym o)
        (subst (λ v. Stepped (done_at d (at_time (time_of d) c)) v b c) (sym p)
        (record {
          answer = refl;
          behind = behind_itself (done_at d (at_time (time_of d) c)).book (done_still d c);
          still = done_still d c;
          near = inl refl;
        }))

-- a tick leaves the book behind as it was, and moves the clock within the day only
record Ticked (t : ℕ) (b r : Book) (c : Book) : Type 0 where
  behind : Behind c r
  near : (r ≡ b) ⊎ ((r.clock ≡ t) × (t ≤ last_moment))

tick_step : (free t : ℕ) (b c : Book) → ((call free (tick t) b).answer ≡ refused TapeShort → ⊥) → Behind c b
    → Ticked t b (call free (tick t) b).book c
unfolding done_at
tick_step free t b c n h = by_tests (cases_Bool (timely (tick t) b)) (cases_Bool (leb (length b.market.orders) free))
  where
    by_tests : Either (timely (tick t) b) → Either (leb (length b.market.orders) free) → Ticked t b (call free (tick t) b).book c
    by_tests (inr f) g = subst (λ (v : Outcome). Ticked t b v.book c) (sym (call_untimely free (tick t) b refl f)) (record { behind = h; near = inl refl })
    by_tests (inl f) (inr g) = absurd (n (ap (λ (z : Outcome). z.answer) (call_short free (tick t) b refl f g)))
    by_tests (inl f) (inl g) =
        let l : b.clock ≤ t = timely_after (tick t) b f in
        subst (λ (v : Outcome). Ticked t b v.book c) (sym (call_done free (tick t) b refl f g))
        (subst (λ v. Ticked t b v c) (sym (together (tick t) b c h l))
        (record { behind = record { before = subst (λ k. c.clock ≤ k) (sym (at_time_clock t c)) (omega (arith, h.before)); same = ap (λ k. at_time k c) (sym (at_time_clock t c)) }; near = inr (at_time_clock t c, timely_day (tick t) b f) }))

record Follows (room : ℕ) (cs : List Call) (b c : Book) : Type 0 where
  answers : answers_to_shared cs (run room cs b).answers ≡ (quiet (shared cs) c).answers
  behind : Behind (quiet (shared cs) c).book (run room cs b).book
  still : Still (quiet (shared cs) c).book

near_after : (r g b c : Book) (ds : List Call) → ((r.clock ≡ g.clock) ⊎ ((r ≡ b) × (g ≡ c))) → Near c b ds → Near g r ds
near_after r g b c ds (inl e) q = inl e
near_after r g b c ds (inr e) q = subst (λ v. Near g v ds) (sym e.0) (subst (λ v. Near v b ds) (sym e.1) q)

near_head : (b c : Book) (d : Call) (ds : List Call) → Near c b (d ∷ ds) → (b.clock ≡ c.clock) ⊎ (b.clock ≤ time_of d)
near_head b c d ds (inl e) = inl e
near_head b c d ds (inr a) = inr a.0

near_tail : (b c : Book) (d : Call) (ds : List Call) → Near c b (d ∷ ds) → Near c b ds
near_tail b c d ds (inl e) = inl e
near_tail b c d ds (inr a) = inr a.1

near_tick : (t : ℕ) (b r c : Book) (ds : List Call) → (t ≤ last_moment → Every (λ d. t ≤ time_of d) ds)
    → ((r ≡ b) ⊎ ((r.clock ≡ t) × (t ≤ last_moment))) → Near c b ds → Near c r ds
near_tick t b r c ds a (inl e) q = subst (λ v. Near c v ds) (sym e) q
near_tick t b r c ds a (inr e) q = inr (subst (λ k. Every (λ d. k ≤ time_of d) ds) (sym e.0) (a e.1))

heads : {X : Type 0} {x y : X} {xs ys : List X} → x ≡ y → xs ≡ ys → (x ∷ xs) ≡ (y ∷ ys)
heads e f = cc

follow : (room : ℕ) (cs : List Call) (b c : Book) → TicksInTime cs → TapeNeverShort (run room cs b).answers → Still c
    → Behind c b → Near c b (shared cs) → Follows room cs b c
unfolding run quiet
follow room [] b c i n s h q = record { answers = refl; behind = h; still = s }
follow room (entry t id w ∷ cs) b c i n s h q =
    let d : Call = entry t id w in
    let x = shared_step (room - length b.market.tape) d b c n.0 s h (near_head b c d (shared cs) q) in
    let f = follow room cs _ _ i n.1 x.still x.behind (near_after _ _ b c (shared cs) x.near (near_tail b c d (shared cs) q)) in
    record { answers = heads x.answer f.answers; behind = f.behind; still = f.still }
follow room (cancel t id ∷ cs) b c i n s h q =
    let d : Call = cancel t id in
    let x = shared_step (room - length b.market.tape) d b c n.0 s h (near_head b c d (shared cs) q) in
    let f = follow room cs _ _ i n.1 x.still x.behind (near_after _ _ b c (shared cs) x.near (near_tail b c d (shared cs) q)) in
    record { answers = heads x.answer f.answers; behind = f.behind; still = f.still }
follow room (quote t bid offer ∷ cs) b c i n s h q =
    let d : Call = quote t bid offer in
    let x = shared_step (room - length b.market.tape) d b c n.0 s h (near_head b c d (shared cs) q) in
    let f = follow room cs _ _ i n.1 x.still x.behind (near_after _ _ b c (shared cs) x.near (near_tail b c d (shared cs) q)) in
    record { answers = heads x.answer f.answers; behind = f.behind; still = f.still }
follow room (tick t ∷ cs) b c i n s h q =
    let x = tick_step (room - length b.market.tape) t b c n.0 h in
    let f = follow room cs _ c i.1 n.1 s x.behind (near_tick t b _ c (shared cs) i.0 x.near q) in
    record { answers = f.answers; behind = f.behind; still = f.still }

made_still : (bid offer : ℕ) → Still (opened bid offer)
made_still bid offer = elim [ Buy ↦ λ e p. absurd (none_some None e refl p) | Sell ↦ λ e p. absurd (none_some None e refl p) ]

pub ticks_change_only_the_clock : TicksChangeOnlyTheClock
ticks_change_only_the_clock bid offer room room' cs cs' e i i' n n' =
    let c : Book = opened bid offer in
    let s : Still c = made_still bid offer in
    let f = follow room cs c c i n s (behind_itself c s) (inl refl) in
    let g = follow room' cs' c c i' n' s (behind_itself c s) (inl refl) in
    let b : Book = (run room cs c).book in
    let b' : Book = (run room' cs' c).book in (
      f.answers ∙ ap (λ ds. (quiet ds c).answers) e ∙ sym g.answers,
      (
        (λ p. ap (λ (z : Book). z.clock) p),
        λ p. f.behind.same ∙ ap (λ k. at_time k (quiet (shared cs) c).book) p ∙ ap (λ ds. at_time b'.clock (quiet ds c).book) e ∙ sym g.behind.same,
      ),
    )
