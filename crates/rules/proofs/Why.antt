-- The reason that is told of an order holds. The line that it names is the latest with its side's mark, and that line began
-- the period that runs; so the search over the tape ends at that line.
use Rattle.std.proofs.Common.{◌≡◌, ℕ, suc, ◌+◌, ◌*◌, true, false, cond, not, eqb, List, [], ◌∷◌, ◌++◌, length, is_some, Some, None, Option, sym, refl, ap, ◌∙◌, inl, inr, arith}
use Rattle.std.proofs.lemmas.Bool.{true≢false, and_parts, eqb-true, eqb-false}
use Rattle.std.specs.List.{AllByRecursion as Every, slice_get}
use Rattle.terms.specs.Terms.{is_mdo}
use Rattle.terms.specs.declared.side.Side.{Side}
use Rattle.terms.specs.declared.side.Side.TheVariants.{Buy, Sell}
use Rattle.tape.specs.declared.line.Line.{Line}
use Rattle.tape.specs.declared.line.Mark.{Mark}
use Rattle.tape.specs.declared.line.Mark.TheVariants.{Nothing, BidDepleted, OfferDepleted}
use Rattle.rules.specs.Laws.{Reason, ReasonsHold}
use Rattle.rules.specs.Market.{Book, Order, ranked_in, end_of, side_of, Market}
use Rattle.rules.specs.Questions.{is_mark, latest_from, at_place, latest_mark, protection, why, no_mdo, at_limit, at_midpoint, discretion}
use Rattle.rules.specs.Runs.{run, opened}
use Rattle.rules.specs.Sweep.{side_mark}
use Rattle.rules.proofs.Cases.{if_both, not_true, not_false}
use Rattle.rules.proofs.Marks.{Cause, Marked, cause_of, run_marked, run_later}
use Rattle.rules.proofs.Members.{all_in}
use Rattle.rules.proofs.Periods.{Later}
use Rattle.rules.proofs.Prices.{mdo_prices}

not_marked : (s : Side) (k : Mark) → (k ≡ side_mark s → ⊥) → is_mark s k ≡ false
not_marked Buy Nothing d = refl
not_marked Buy BidDepleted d = absurd (d refl)
not_marked Buy OfferDepleted d = refl
not_marked Sell Nothing d = refl
not_marked Sell BidDepleted d = refl
not_marked Sell OfferDepleted d = absurd (d refl)

marked_is : (s : Side) → is_mark s (side_mark s) ≡ true
marked_is Buy = refl
marked_is Sell = refl

latest_none : (s : Side) (place found : ℕ) (ls : List Line) → Every (λ (l : Line). l.mark ≡ side_mark s → ⊥) ls → latest_from s place found ls ≡ found
latest_none s place found [] h = refl
latest_none s place found (l ∷ ls) h =
    ap (λ v. latest_from s (place + 1) (cond v (place + 1) found) ls) (not_marked s l.mark h.0) ∙ latest_none s (place + 1) found ls h.1

latest_at : (s : Side) (place found : ℕ) (earlier : List Line) (l : Line) (later : List Line) → l.mark ≡ side_mark s
    → Every (λ (z : Line). z.mark ≡ side_mark s → ⊥) later
    → latest_from s place found (earlier ++ (l ∷ later)) ≡ place + suc (length earlier)
latest_at s place found [] l later e h =
    ap (λ v. latest_from s (place + 1) (cond v (place + 1) found) later) (ap (is_mark s) e ∙ marked_is s) ∙ latest_none s (place + 1) (place + 1) later h
latest_at s place found (z ∷ zs) l later e h =
    let g = latest_at s (place + 1) (cond (is_mark s z.mark) (place + 1) found) zs l later e h in omega arith

nth_split : (earlier : List Line) (l : Line) (later : List Line) → slice_get (earlier ++ (l ∷ later)) (length earlier) ≡ Some l
nth_split [] l later = refl
nth_split (z ∷ zs) l later = nth_split zs l later

cause_place : (s : Side) (e : ℕ) (tape : List Line) (c : Cause (side_mark s) e tape) → at_place (latest_mark s tape) tape ≡ Some c.line
cause_place s e tape c =
    let p : latest_mark s tape ≡ suc (length c.earlier) = ap (latest_mark s) c.split ∙ latest_at s 0 0 c.earlier c.line c.later c.mark c.latest ∙ omega arith in
    ap (λ k. at_place k tape) p ∙ ap (λ ls. slice_get ls (length c.earlier)) c.split ∙ nth_split c.earlier c.line c.later

protection_holds : (b : Book) (o : Order) → Marked b.clock b.market → Later b.clock b.market
    → is_mdo o.terms.kind ≡ true → (ranked_in b.market o ≡ 2 * o.terms.limit → ⊥) → (ranked_in b.market o ≡ b.market.bid + b.market.offer → ⊥)
    → o.terms.qdp ≡ true → (end : Option ℕ) → end_of (side_of o) b.market ≡ end → Reason b o (protection b.market o end)
protection_holds b o h a i l d q None e =
    λ p. elim ((mdo_prices b.market o i).0 p) [
      | inl f ↦ l f
      | inr (inl f) ↦ d f
      | inr (inr f) ↦ true≢false (sym (and_parts o.terms.qdp _ f).1 ∙ ap is_some e)
    ]
protection_holds b o h a i l d q (Some e) p =
    let c = cause_of b.clock b.market (side_of o) e h p in
    (q, (c.line, cause_place (side_of o) e b.market.tape c, c.mark, sym c.begins, a (side_of o) e p))

reason_holds : (b : Book) (o : Order) → Marked b.clock b.market → Later b.clock b.market → Reason b o (why b.market o)
unfolding why
reason_holds b o h a =
    if_both (not (is_mdo o.terms.kind)) no_mdo _ (Reason b o) (not_false (is_mdo o.terms.kind))
    (λ n. let i = not_true (is_mdo o.terms.kind) n in if_both (eqb (ranked_in m o) (2 * o.terms.limit)) at_limit _ (Reason b o) (λ e. eqb-true _ _ e)
    (λ l. if_both (eqb (ranked_in m o) (m.bid + m.offer)) at_midpoint _ (Reason b o) (λ e. eqb-true _ _ e)
    (λ d. if_both o.terms.qdp (protection m o (end_of (side_of o) m)) discretion (Reason b o)
    (λ q. protection_holds b o h a i (eqb-false _ _ l) (eqb-false _ _ d) q (end_of (side_of o) m) refl)
    (λ q p. elim ((mdo_prices m o i).0 p) [
      | inl f ↦ eqb-false _ _ l f
      | inr (inl f) ↦ eqb-false _ _ d f
      | inr (inr f) ↦ true≢false (sym (and_parts o.terms.qdp _ f).0 ∙ q)
    ]))))
  where
    m : Market
    m = b.market

pub reasons_hold : ReasonsHold
reasons_hold bid offer room cs =
    let b : Book = (run room cs (opened bid offer)).book in
    all_in _ b.market.orders (λ o _. reason_holds b o (run_marked bid offer room cs) (run_later bid offer room cs))
