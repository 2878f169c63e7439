-- A pair more, or less, in a list where no identifier stands twice, wherever in the list it stands. Both makes rest on this:
-- a row is pushed at the end, a place of the table is filled in the middle, and to drop a pair is to undo that.
-- Cite `number_between` for the numbers, `distinct_between` and `distinct_without` for the list.
use Rattle.std.proofs.Common.{◌≡◌, ℕ, Bool, true, false, cond, not, ◌&&◌, List, [], ◌∷◌, ◌++◌, is_some, Some, None, Option, sym, refl, ap, ◌∙◌, arith}
use Rattle.std.specs.Str.{bytes_eq}
use Rattle.std.proofs.lemmas.Bool.{and_parts, both_ways, false_from_ne_true}
use Rattle.std.proofs.lemmas.Bool.Decides.{not_from_Decides}
use Rattle.std.proofs.lemmas.Slice.Eq.{bytes_eq-Decides}
use Rattle.directory.specs.declared.entry.Entry.{Entry}
use Rattle.directory.specs.Entries.{entry_id, number_in, distinct}

pub bytes_apart : (xs ys : List ℕ) → (xs ≡ ys → ⊥) → bytes_eq xs ys ≡ false
bytes_apart xs ys ne = false_from_ne_true (bytes_eq xs ys) (λ h. ne ((bytes_eq-Decides xs ys).0 h))

flipped : (xs ys : List ℕ) → bytes_eq xs ys ≡ false → bytes_eq ys xs ≡ false
flipped xs ys h = bytes_apart ys xs (λ e. not_from_Decides (bytes_eq xs ys) (bytes_eq-Decides xs ys) h (sym e))

none_of : (o : Option ℕ) → not (is_some o) ≡ true → o ≡ None
none_of None h = refl
none_of (Some x) h = absurd (both_ways true (sym h) refl)

pub cond_none : (b : Bool) (n : ℕ) (o : Option ℕ) → cond b (Some n) o ≡ None → (b ≡ false) × (o ≡ None)
cond_none true n o h = let z : ◌≡◌ {A = ℕ} 0 1 = cc in absurd (omega arith)
cond_none false n o h = (refl, h)

first_none : (x : Entry) (es : List Entry) → distinct (x ∷ es) ≡ true → number_in es (entry_id x) ≡ None
first_none x es h = none_of _ (and_parts (not (is_some (number_in es (entry_id x)))) (distinct es) h).0

rest_distinct : (x : Entry) (es : List Entry) → distinct (x ∷ es) ≡ true → distinct es ≡ true
rest_distinct x es h = (and_parts (not (is_some (number_in es (entry_id x)))) (distinct es) h).1

joined : (x : Entry) (es : List Entry) → number_in es (entry_id x) ≡ None → distinct es ≡ true → distinct (x ∷ es) ≡ true
joined x es h d = ap (λ o. not (is_some o) && distinct es) h ∙ d

-- two tests that are never both true may be asked in either order
swapped : (b c : Bool) (m n o : Option ℕ) → (b ≡ true → c ≡ true → ⊥) → cond b m (cond c n o) ≡ cond c n (cond b m o)
swapped true true m n o h = absurd (h refl refl)
swapped true false m n o h = refl
swapped false true m n o h = refl
swapped false false m n o h = refl

pub number_between : (xs ys : List Entry) (e : Entry) (k : List ℕ) → number_in (xs ++ ys) (entry_id e) ≡ None → number_in (xs ++ e ∷ ys) k ≡ cond (bytes_eq k (entry_id e)) (Some e.number) (number_in (xs ++ ys) k)
number_between [] ys e k none = refl
number_between (x ∷ xs) ys e k none =
    let c = cond_none (bytes_eq (entry_id e) (entry_id x)) x.number (number_in (xs ++ ys) (entry_id e)) none in
    ap (λ o. cond (bytes_eq k (entry_id x)) (Some x.number) o) (number_between xs ys e k c.1)
    ∙ swapped (bytes_eq k (entry_id x)) (bytes_eq k (entry_id e)) (Some x.number) (Some e.number) (number_in (xs ++ ys) k)
    (λ a b. not_from_Decides _ (bytes_eq-Decides (entry_id e) (entry_id x)) c.0 (sym ((bytes_eq-Decides k (entry_id e)).0 b) ∙ (bytes_eq-Decides k (entry_id x)).0 a))

pub distinct_between : (xs ys : List Entry) (e : Entry) → number_in (xs ++ ys) (entry_id e) ≡ None → distinct (xs ++ ys) ≡ true → distinct (xs ++ e ∷ ys) ≡ true
distinct_between [] ys e none d = joined e ys none d
distinct_between (x ∷ xs) ys e none d =
    let c = cond_none (bytes_eq (entry_id e) (entry_id x)) x.number (number_in (xs ++ ys) (entry_id e)) none in
    let q = number_between xs ys e (entry_id x) c.1
    ∙ ap (λ b. cond b (Some e.number) (number_in (xs ++ ys) (entry_id x))) (flipped (entry_id e) (entry_id x) c.0)
    ∙ first_none x (xs ++ ys) d in
    joined x (xs ++ e ∷ ys) q (distinct_between xs ys e c.1 (rest_distinct x (xs ++ ys) d))

pub distinct_without : (xs ys : List Entry) (e : Entry) → distinct (xs ++ e ∷ ys) ≡ true → (number_in (xs ++ ys) (entry_id e) ≡ None) × (distinct (xs ++ ys) ≡ true)
distinct_without [] ys e d = (first_none e ys d, rest_distinct e ys d)
distinct_without (x ∷ xs) ys e d =
    let r = distinct_without xs ys e (rest_distinct x (xs ++ e ∷ ys) d) in
    let c = cond_none (bytes_eq (entry_id x) (entry_id e)) e.number (number_in (xs ++ ys) (entry_id x)) (sym (number_between xs ys e (entry_id x) r.0) ∙ first_none x (xs ++ e ∷ ys) d) in (
      ap (λ b. cond b (Some x.number) (number_in (xs ++ ys) (entry_id e))) (flipped (entry_id x) (entry_id e) c.0) ∙ r.0,
      joined x (xs ++ ys) c.1 r.1,
    )
