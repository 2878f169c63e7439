-- A look along rows, and the list on both sides of a row. Cite `row_none` and `row_stands` for the look,
-- `rows_split` for the two sides, `standing_number` for the number of the identifier that stands there.
use Rattle.std.proofs.Common.{◌≡◌, ℕ, Bool, not, suc, ◌+◌, ◌<◌, ◌≤◌, true, false, cond, List, [], ◌∷◌, ◌++◌, length, get_or, take, drop, refl, Some, None, sym, ap, ◌∙◌, arith, take-append-drop, drop-cons}
use Rattle.std.specs.List.{position, position_or_len}
use Rattle.std.proofs.lemmas.List.Quantifiers.{position-Some}
use Rattle.std.proofs.lemmas.Bool.{ltb-false}
use Rattle.std.proofs.lemmas.Slice.Eq.{bytes_eq-Decides}
use Rattle.std.specs.Str.{bytes_eq}
use Rattle.directory.specs.declared.entry.Entry.{Entry}
use Rattle.directory.specs.Entries.{entry_id, number_in, distinct, Stands}
use Rattle.directory.proofs.Distinct.{cond_none}
use Rattle.directory.proofs.Changes.{pair_found}

-- the first row that is the identifier's
abbrev own : List ℕ → Entry → Bool
own k e = bytes_eq k (entry_id e)

passed_over : (b : Bool) (n m : ℕ) → suc m ≤ cond (not b) (1 + n) 0 → (b ≡ false) × (m ≤ n)
passed_over true n m h = absurd (omega arith)
passed_over false n m h = (refl, omega arith)

all_passed : (es : List Entry) (k : List ℕ) → length es ≤ position_or_len (own k) es → number_in es k ≡ None
all_passed [] k h = refl
all_passed (e ∷ es) k h =
    let first = passed_over (own k e) (position_or_len (own k) es) (length es) h in
    ap (λ b. cond b (Some e.number) (number_in es k)) first.0 ∙ all_passed es k first.1

pub row_none : (es : List Entry) (k : List ℕ) → position (own k) es ≡ None → number_in es k ≡ None
row_none es k h = all_passed es k (let past = (cond_none _ _ None h).0 in omega (arith, ltb-false))

row_within : (es : List Entry) (k : List ℕ) (i : ℕ) → position (own k) es ≡ Some i → i < length es
row_within [] k i h = cc
row_within (e ∷ es) k i h = (position-Some (own k) (e ∷ es) i e h).0

pub row_stands : (es : List Entry) (k : List ℕ) (i : ℕ) → position (own k) es ≡ Some i → Stands es k i
row_stands es k i h =
    record { within = row_within es k i h; same = λ d. sym ((bytes_eq-Decides k (entry_id (get_or es i d))).0 (position-Some (own k) es i d h).1) }

pub rows_split : (es : List Entry) (i : ℕ) (d : Entry) → i < length es → es ≡ take i es ++ get_or es i d ∷ drop (suc i) es
rows_split es i d lt = sym (take-append-drop i es) ∙ ap (λ xs. take i es ++ xs) (drop-cons es i d lt)

pub standing_number : (es : List Entry) (k : List ℕ) (i : ℕ) (d : Entry) → distinct es ≡ true → Stands es k i → number_in es k ≡ Some (get_or es i d).number
standing_number es k i d apart s =
    let split = rows_split es i d s.within in
    ap (number_in es) (sym (s.same d))
    ∙ ap (λ xs. number_in xs (entry_id (get_or es i d))) split
    ∙ pair_found (take i es) (drop (suc i) es) (get_or es i d) (ap distinct (sym split) ∙ apart)
