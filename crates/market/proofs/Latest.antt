-- The latest mark, sought from the newest line back: a line with the mark is the latest of those up to it, and one without may
-- be left out. Cite: latest_found for the search, with marked; road, from_one and as_found for the range that it goes back over.
use Rattle.std.proofs.Common.{◌≡◌, ℕ, zero, suc, ◌+◌, ◌-◌, ◌≤◌, Bool, true, false, cond, List, [], ◌∷◌, ◌++◌, length, take, Some, None, Option, sym, refl, ap, ◌∙◌, arith}
use Rattle.std.proofs.lemmas.List.{length-take-le}
use Rattle.std.proofs.lemmas.Bool.{cond-true, cond-false}
use Rattle.std.specs.List.{slice_get, find}
use Rattle.std.specs.Option.{unwrap_or, option_map}
use Rattle.std.proofs.lemmas.Iterator.{YieldsList}
use Rattle.std.proofs.lemmas.Iterator.Splits.{YieldsList-from_shown_while}
use Rattle.std.specs.Range.{range_inclusive_left, range_inclusive_len, range_inclusive_start, range_inclusive_end, range_inclusive_exhausted, range_inclusive_steps_back}
use Rattle.std.specs.Iterator.Adapters.{rev_source, rev_steps}
use Rattle.std.specs.declared.iter.Rev.{Rev}
use Rattle.std.specs.declared.ops.RangeInclusive.{RangeInclusive}
use Rattle.terms.specs.declared.side.Side.{Side}
use Rattle.roll.specs.Rolls.{at_place}
use Rattle.tape.specs.declared.line.Line.{Line}
use Rattle.rules.specs.Questions.{is_mark, latest_from, latest_mark}
use Rattle.rules.proofs.Cases.{some_same, none_some}
use Rattle.market.proofs.Places.{nth_within, nth_none}

-- one line more at the end
latest_push : (s : Side) (place found : ℕ) (ls : List Line) (l : Line)
    → latest_from s place found (ls ++ (l ∷ [])) ≡ cond (is_mark s l.mark) (place + length ls + 1) (latest_from s place found ls)
latest_push s place found [] l = let e : place + 1 ≡ place + 0 + 1 = omega arith in ap (λ n. cond (is_mark s l.mark) n found) e
latest_push s place found (x ∷ ls) l =
    let next = cond (is_mark s x.mark) (place + 1) found in
    let e : place + 1 + length ls + 1 ≡ place + suc (length ls) + 1 = omega arith in
    latest_push s (place + 1) next ls l ∙ ap (λ n. cond (is_mark s l.mark) n (latest_from s (place + 1) next ls)) e

take_nth : (ls : List Line) (i : ℕ) (l : Line) → slice_get ls i ≡ Some l → take (suc i) ls ≡ take i ls ++ (l ∷ [])
take_nth [] i l e = absurd (none_some None l refl e)
take_nth (x ∷ ls) zero l e = ap (λ z. z ∷ []) (some_same x l e)
take_nth (x ∷ ls) (suc i) l e = ap (λ zs. x ∷ zs) (take_nth ls i l e)

module _ (s : Side) (ls : List Line) where
  up_to : (i : ℕ) (l : Line) → slice_get ls i ≡ Some l → latest_mark s (take (suc i) ls) ≡ cond (is_mark s l.mark) (suc i) (latest_mark s (take i ls))
  up_to i l e =
      let lt = nth_within ls i l e in
      let n : length (take i ls) ≡ i = length-take-le i ls (omega arith) in
      let k : 0 + length (take i ls) + 1 ≡ suc i = omega arith in
      ap (latest_mark s) (take_nth ls i l e) ∙ latest_push s 0 0 (take i ls) l ∙ ap (λ z. cond (is_mark s l.mark) z (latest_mark s (take i ls))) k

  latest_here : (place : ℕ) (l : Line) → Some l ≡ at_place ls place → true ≡ is_mark s l.mark → place ≡ latest_mark s (take place ls)
  latest_here zero l e t = absurd (none_some None l refl (sym e))
  latest_here (suc i) l e t = sym (up_to i l (sym e) ∙ cond-true (is_mark s l.mark) (suc i) (latest_mark s (take i ls)) (sym t))

  latest_before : (place : ℕ) (l : Line) → Some l ≡ at_place ls place → false ≡ is_mark s l.mark → latest_mark s (take (place - 1) ls) ≡ latest_mark s (take place ls)
  latest_before zero l e f = absurd (none_some None l refl (sym e))
  latest_before (suc i) l e f =
      let k : suc i - 1 ≡ i = omega arith in
      ap (λ n. latest_mark s (take n ls)) k ∙ sym (up_to i l (sym e) ∙ cond-false (is_mark s l.mark) (suc i) (latest_mark s (take i ls)) (sym f))

line_there : (ls : List Line) (place : ℕ) → 1 ≤ place → place ≤ length ls → None ≡ at_place ls place → ⊥
line_there ls zero l h e = omega arith
line_there ls (suc i) l h e = let k = nth_none ls i (sym e) in omega arith

-- The places from the newest line back, as a reversed range gives them

abbrev pub down : ℕ → List ℕ
down zero = []
down (suc n) = suc n ∷ down n

abbrev pub places : Rev (RangeInclusive ℕ) → ℕ
places s = range_inclusive_left (λ a b. b - a) (rev_source s)

one_down : (e left next : ℕ) (spent : Bool) → range_inclusive_len (λ a b. b - a) 1 e spent ≡ left → next + 1 ≡ left → e ≡ suc next
one_down e left next true h k = absurd (omega arith)
one_down e left next false h k = omega arith

pub road : (s : Rev (RangeInclusive ℕ)) → range_inclusive_start (rev_source s) ≡ 1
    → YieldsList (rev_steps (range_inclusive_steps_back (λ a b. b - a) (λ a b. b ≡ a + 1))) (λ x. x) s (down (places s))
road s e =
    YieldsList-from_shown_while (rev_steps (range_inclusive_steps_back (λ a b. b - a) (λ a b. b ≡ a + 1))) (λ x. x) (λ t. down (places t))
    (λ t. range_inclusive_start (rev_source t) ≡ 1)
    (λ t u f h. ap (λ n. length (down n)) h.1.0)
    (λ t x u f h. (h.0 ∙ f, step t x u f h.1.0 h.1.1))
    s e
  where
    step : (t : Rev (RangeInclusive ℕ)) (x : ℕ) (u : Rev (RangeInclusive ℕ)) → range_inclusive_start (rev_source t) ≡ 1 → x ≡ range_inclusive_end (rev_source t)
        → places u + 1 ≡ places t → down (places t) ≡ x ∷ down (places u)
    step t x u f e k =
        let last : range_inclusive_end (rev_source t) ≡ suc (places u) =
        one_down (range_inclusive_end (rev_source t)) (places t) (places u) (range_inclusive_exhausted (rev_source t))
        (ap (λ a. range_inclusive_len (λ a b. b - a) a (range_inclusive_end (rev_source t)) (range_inclusive_exhausted (rev_source t))) (sym f)) k
        in
        let n : places t ≡ suc (places u) = omega arith in
        ap down n ∙ ap (λ y. y ∷ down (places u)) (sym (e ∙ last))

pub from_one : (s : Rev (RangeInclusive ℕ)) (n : ℕ) → range_inclusive_start (rev_source s) ≡ 1 → range_inclusive_end (rev_source s) ≡ n
    → range_inclusive_exhausted (rev_source s) ≡ false → places s ≡ n
from_one s n a b f =
    ap (λ i. range_inclusive_len (λ a b. b - a) i (range_inclusive_end (rev_source s)) (range_inclusive_exhausted (rev_source s))) a
    ∙ ap (λ i. range_inclusive_len (λ a b. b - a) 1 i (range_inclusive_exhausted (rev_source s))) b
    ∙ ap (range_inclusive_len (λ a b. b - a) 1 n) f
    ∙ omega arith

pub as_found : (o : Option ℕ) → o ≡ option_map (λ x. x) o
as_found None = refl
as_found (Some x) = refl

module _ (s : Side) (ls : List Line) where
  -- whether the line at a place has the mark
  abbrev pub marked : ℕ → Bool
  marked place = elim (at_place ls place) [ None ↦ false | Some l ↦ is_mark s l.mark ]

  pub latest_found : (n : ℕ) → n ≤ length ls → unwrap_or (find marked (down n)) 0 ≡ latest_mark s (take n ls)
  latest_found zero h = refl
  latest_found (suc n) h = by (slice_get ls n) refl (latest_found n (omega arith))
    where
      by : (o : Option Line) → slice_get ls n ≡ o → unwrap_or (find marked (down n)) 0 ≡ latest_mark s (take n ls)
          → unwrap_or (cond (elim o as (λ _. Bool) [ None ↦ false | Some l ↦ is_mark s l.mark ]) (Some (suc n)) (find marked (down n))) 0 ≡ latest_mark s (take (suc n) ls)
      by None e rest = absurd (line_there ls (suc n) (omega arith) h (sym e))
      by (Some l) e rest = tell (is_mark s l.mark) refl
        where
          tell : (b : Bool) → is_mark s l.mark ≡ b → unwrap_or (cond b (Some (suc n)) (find marked (down n))) 0 ≡ latest_mark s (take (suc n) ls)
          tell true t = latest_here s ls (suc n) l (sym e) (sym t)
          tell false f =
              let k : n ≡ suc n - 1 = omega arith in
              rest ∙ ap (λ i. latest_mark s (take i ls)) k ∙ latest_before s ls (suc n) l (sym e) (sym f)
