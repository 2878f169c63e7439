-- The pairs of a table when one of its places changes. The table is the places before, the place, and the places after,
-- and so are its pairs: filling a free place puts a pair between two lists of pairs, freeing a place takes it out.
-- Cite `filled` and `freed` for that, `taken_here`, `taken_other` and `home_other` for a place of a changed table,
-- `none_held` and `all_taken` for what a look round the whole table shows.
use Rattle.std.proofs.Common.{◌≡◌, ℕ, zero, suc, ◌+◌, ◌<◌, ◌≤◌, true, false, List, [], ◌∷◌, ◌++◌, length, get_or, take, drop, set, is_some, Some, None, Option, sym, refl, ap, ◌∙◌, arith, length-append, take-append-drop, drop-cons, get_or-set_other, get_or-set_same}
use lib.Seq.{set_split}
use Rattle.std.specs.Str.{bytes_eq}
use Rattle.std.proofs.lemmas.Bool.{both_ways, cond-false}
use Rattle.directory.specs.declared.entry.Entry.{Entry}
use Rattle.directory.specs.Entries.{entry_id, number_in}
use Rattle.directory.specs.Table.{Places, entries_in, taken, home_at, home_place}
use Rattle.directory.proofs.Distinct.{bytes_apart}

pub entries_append : (ps qs : Places) → entries_in (ps ++ qs) ≡ entries_in ps ++ entries_in qs
entries_append [] qs = refl
entries_append (None ∷ ps) qs = entries_append ps qs
entries_append (Some e ∷ ps) qs = ap (λ es. e ∷ es) (entries_append ps qs)

-- the pairs before a place and after it
abbrev pub before : Places → ℕ → List Entry
before ps p = entries_in (take p ps)

abbrev pub after : Places → ℕ → List Entry
after ps p = entries_in (drop (suc p) ps)

-- the pairs of a table whose place p is as given
at_place_is : (ps : Places) (p : ℕ) → p < length ps → entries_in ps ≡ before ps p ++ entries_in (get_or ps p None ∷ drop (suc p) ps)
at_place_is ps p lt =
    ap entries_in (sym (take-append-drop p ps) ∙ ap (λ qs. take p ps ++ qs) (drop-cons ps p None lt))
    ∙ entries_append (take p ps) (get_or ps p None ∷ drop (suc p) ps)

pub with_pair : (ps : Places) (p : ℕ) (e : Entry) → p < length ps → get_or ps p None ≡ Some e → entries_in ps ≡ before ps p ++ e ∷ after ps p
with_pair ps p e lt is = at_place_is ps p lt ∙ ap (λ o. before ps p ++ entries_in (o ∷ drop (suc p) ps)) is

pub without_pair : (ps : Places) (p : ℕ) → p < length ps → get_or ps p None ≡ None → entries_in ps ≡ before ps p ++ after ps p
without_pair ps p lt is = at_place_is ps p lt ∙ ap (λ o. before ps p ++ entries_in (o ∷ drop (suc p) ps)) is

pub filled : (ps : Places) (p : ℕ) (e : Entry) → p < length ps → entries_in (set ps p (Some e)) ≡ before ps p ++ e ∷ after ps p
filled ps p e lt = ap entries_in (set_split ps p (Some e) lt) ∙ entries_append (take p ps) (Some e ∷ drop (suc p) ps)

pub freed : (ps : Places) (p : ℕ) → p < length ps → entries_in (set ps p None) ≡ before ps p ++ after ps p
freed ps p lt = ap entries_in (set_split ps p None lt) ∙ entries_append (take p ps) (None ∷ drop (suc p) ps)

pub one_more : (xs ys : List Entry) (e : Entry) → length (xs ++ e ∷ ys) ≡ length (xs ++ ys) + 1
one_more xs ys e = simp length-append (omega arith)

pub free_is : (ps : Places) (p : ℕ) → taken ps p ≡ false → get_or ps p None ≡ None
free_is ps p h = by_case (get_or ps p None) h
  where
    by_case : (o : Option Entry) → is_some o ≡ false → o ≡ None
    by_case None h = refl
    by_case (Some e) h = absurd (both_ways true h refl)

pub home_is : (ps : Places) (p : ℕ) (e : Entry) → get_or ps p None ≡ Some e → home_at ps p ≡ home_place (entry_id e)
home_is ps p e is = ap (λ (o : Option Entry). elim o [ None ↦ 0 | Some x ↦ home_place (entry_id x) ]) is

pub place_below : (id : List ℕ) → home_place id < 128
unfolding home_place
place_below id = omega arith

pub home_below : (ps : Places) (p : ℕ) → home_at ps p < 128
home_below ps p = by_case (get_or ps p None)
  where
    by_case : (o : Option Entry) → elim o [ None ↦ 0 | Some e ↦ home_place (entry_id e) ] < 128
    by_case None = omega arith
    by_case (Some e) = place_below (entry_id e)

-- a place of a table in which place p was set
pub taken_here : (ps : Places) (p : ℕ) (o : Option Entry) → p < length ps → taken (set ps p o) p ≡ is_some o
taken_here ps p o lt = ap is_some (get_or-set_same ps p o None lt)

pub taken_other : (ps : Places) (p q : ℕ) (o : Option Entry) → (q ≡ p → ⊥) → taken (set ps p o) q ≡ taken ps q
taken_other ps p q o ne = ap is_some (get_or-set_other ps p q o None ne)

pub home_other : (ps : Places) (p q : ℕ) (o : Option Entry) → (q ≡ p → ⊥) → home_at (set ps p o) q ≡ home_at ps q
home_other ps p q o ne = ap (λ (x : Option Entry). elim x [ None ↦ 0 | Some e ↦ home_place (entry_id e) ]) (get_or-set_other ps p q o None ne)

-- a look round the whole table that meets no pair of the identifier
pub none_held : (ps : Places) (k : List ℕ) → ((p : ℕ) (e : Entry) → p < length ps → get_or ps p None ≡ Some e → entry_id e ≡ k → ⊥) → number_in (entries_in ps) k ≡ None
none_held [] k h = refl
none_held (None ∷ ps) k h = none_held ps k (λ p e lt is. h (suc p) e (omega arith) is)
none_held (Some x ∷ ps) k h =
    cond-false (bytes_eq k (entry_id x)) (Some x.number) (number_in (entries_in ps) k) (bytes_apart k (entry_id x) (λ e. h 0 x (omega arith) refl (sym e)))
    ∙ none_held ps k (λ p e lt is. h (suc p) e (omega arith) is)

-- places that are all taken, but perhaps one
pub all_taken : (ps : Places) → ((p : ℕ) → p < length ps → taken ps p ≡ true) → length (entries_in ps) ≡ length ps
all_taken [] h = refl
all_taken (None ∷ ps) h = absurd (both_ways false refl (h 0 (omega arith)))
all_taken (Some e ∷ ps) h = ap suc (all_taken ps (λ p lt. h (suc p) (omega arith)))

pub all_but_one : (ps : Places) (hole : ℕ) → ((p : ℕ) → p < length ps → (p ≡ hole → ⊥) → taken ps p ≡ true) → length ps ≤ length (entries_in ps) + 1
all_but_one [] hole h = omega arith
all_but_one (None ∷ ps) zero h = omega (arith, all_taken ps (λ p lt. h (suc p) (omega arith) (λ e. omega arith)))
all_but_one (Some x ∷ ps) zero h = omega (arith, all_taken ps (λ p lt. h (suc p) (omega arith) (λ e. omega arith)))
all_but_one (None ∷ ps) (suc hole) h = absurd (both_ways false refl (h 0 (omega arith) (λ e. omega arith)))
all_but_one (Some x ∷ ps) (suc hole) h = omega (arith, all_but_one ps hole (λ p lt ne. h (suc p) (omega arith) (λ e. ne (omega arith))))
