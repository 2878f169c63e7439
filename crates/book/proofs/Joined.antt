-- A row that joins with its pair, and one that joins and is dropped again: the directory stays tied to the rows. Cite row_joined
-- with put_added; newest_same and front_same for the row that is dropped.
use Rattle.std.proofs.Common.{◌≡◌, ℕ, ◌+◌, ◌-◌, ◌<◌, true, false, ltb, ◌⊎◌, List, [], ◌∷◌, ◌++◌, map, length, take, Some, None, Ok, Err, Option, Result, sym, refl, ap, ◌∙◌, inl, inr, arith, length-append, MatchResult}
use Rattle.std.proofs.lemmas.List.{length-map, map_push, take-map}
use lib.Seq.{take-append_seam}
use Rattle.std.proofs.lemmas.Bool.{both_ways, cases_Bool, lt-ltb}
use Rattle.std.proofs.lemmas.Bool.Decides.{not_from_Decides}
use Rattle.std.proofs.lemmas.Slice.Eq.{bytes_eq-Decides}
use Rattle.std.specs.Prelude.{if◌then◌else◌}
use Rattle.terms.specs.Identifiers.{lawful_identifier}
use Rattle.directory.specs.declared.directory.PutRefusal.{PutRefusal}
use Rattle.directory.specs.declared.directory.PutRefusal.TheVariants.{Unlawful, Held, Full}
use Rattle.directory.specs.Pairs.{Added, RefusedPut, most_pairs, put_refusal}
use Rattle.directory.proofs.Distinct.{bytes_apart}
use Rattle.std.specs.Str.{bytes_eq}
use Rattle.rules.proofs.Cases.{if_true, none_some}
use Rattle.market.specs.declared.table.Row.{Row}
use Rattle.market.specs.Changes.{with_left, SameButShares, newest_number}
use Rattle.market.proofs.Dropped.{newest_of_push}
use Rattle.book.specs.Tied.{row_name, number_named, Apart, Tied}
use Rattle.book.proofs.Ties.{clash, first, later}

-- a name that no row has
passes : (id : List ℕ) (x : Row) (xs : List Row) → number_named id (x ∷ xs) ≡ None → (bytes_eq id (row_name x) ≡ false) × (number_named id xs ≡ None)
passes id x xs e = by (cases_Bool (bytes_eq id (row_name x)))
  where
    by : (bytes_eq id (row_name x) ≡ true) ⊎ (bytes_eq id (row_name x) ≡ false) → (bytes_eq id (row_name x) ≡ false) × (number_named id xs ≡ None)
    by (inl h) = absurd (clash (number_named id (x ∷ xs)) (first id x xs h) e)
    by (inr h) = (h, sym (later id x xs h) ∙ e)

nobody : (id : List ℕ) → number_named id [] ≡ None
unfolding number_named
nobody id = refl

module _ (r : Row) where
  named_last : (xs : List Row) → number_named (row_name r) xs ≡ None → number_named (row_name r) (xs ++ (r ∷ [])) ≡ Some r.number
  named_last [] e = first (row_name r) r [] ((bytes_eq-Decides (row_name r) (row_name r)).1 refl)
  named_last (x ∷ xs) e =
      let past = passes (row_name r) x xs e in
      later (row_name r) x (xs ++ (r ∷ [])) past.0 ∙ named_last xs past.1

  others_named : (id : List ℕ) → (id ≡ row_name r → ⊥) → (xs : List Row) → number_named id (xs ++ (r ∷ [])) ≡ number_named id xs
  unfolding number_named
  others_named id other [] = later id r [] (bytes_apart id (row_name r) other)
  others_named id other (x ∷ xs) =
      ap (λ z. if bytes_eq id (row_name x) then Some x.number else z) (others_named id other xs)

  apart_more : (xs : List Row) → number_named (row_name r) xs ≡ None → Apart xs → Apart (xs ++ (r ∷ []))
  apart_more [] e a = (nobody (row_name r), tt)
  apart_more (x ∷ xs) e a =
      let past = passes (row_name r) x xs e in
      let other : row_name x ≡ row_name r → ⊥ = λ q. both_ways (bytes_eq (row_name r) (row_name x)) past.0 ((bytes_eq-Decides (row_name r) (row_name x)).1 (sym q)) in
      (others_named (row_name x) other xs ∙ a.0, apart_more xs past.1 a.1)

  -- the row's pair is added with it
  pub row_joined : (rs : List Row) (id : List ℕ) (was is : List ℕ → Option ℕ) (had has : ℕ) → id ≡ row_name r → Added id r.number was had is has → Tied was had rs → Tied is has (rs ++ (r ∷ []))
  row_joined rs id was is had has e added tied =
      let none : number_named (row_name r) rs ≡ None = sym (tied.known (row_name r)) ∙ ap was (sym e) ∙ added.fresh in
      record {
        known = λ k. by none k (cases_Bool (bytes_eq k (row_name r)));
        apart = apart_more rs none tied.apart;
        counted = omega (arith, added.more, tied.counted, length-append rs (r ∷ []));
      }
    where
      by : number_named (row_name r) rs ≡ None → (k : List ℕ) → (bytes_eq k (row_name r) ≡ true) ⊎ (bytes_eq k (row_name r) ≡ false) → is k ≡ number_named k (rs ++ (r ∷ []))
      by none k (inl h) =
          let same : k ≡ row_name r = (bytes_eq-Decides k (row_name r)).0 h in
          ap is (same ∙ sym e) ∙ added.here ∙ sym (ap (λ z. number_named z (rs ++ (r ∷ []))) same ∙ named_last rs none)
      by none k (inr h) =
          let other : k ≡ row_name r → ⊥ = not_from_Decides (bytes_eq k (row_name r)) (bytes_eq-Decides k (row_name r)) h in
          added.others k (λ q. other (q ∙ e)) ∙ tied.known k ∙ sym (others_named k other rs)

-- a lawful name that is not held finds its place while one is free
pub put_added : (r : Result (Unit {0}) PutRefusal) (id : List ℕ) (n : ℕ) (was is : List ℕ → Option ℕ) (had has : ℕ)
    → MatchResult r (λ _. Added id n was had is has) (λ why. RefusedPut why id was had is has)
    → lawful_identifier id ≡ true → was id ≡ None → had < most_pairs → Added id n was had is has
put_added (Ok u) id n was is had has added lawful fresh free = added
put_added (Err why) id n was is had has refused lawful fresh free =
    absurd (none_some (put_refusal id (was id) had) why
    (if_true (lawful_identifier id) _ (Some Unlawful) lawful
    ∙ ap (λ (z : Option ℕ). elim z as (λ _. Option PutRefusal) [ Some n ↦ Some Held | None ↦ if ltb had most_pairs then None else Some Full ]) fresh
    ∙ if_true (ltb had most_pairs) None (Some Full) (lt-ltb had most_pairs free))
    refused.because)

-- The newest row, whatever is left of it

newest_out : (low : ℕ) (rs : List Row) → newest_number low (map (with_left 0) rs) ≡ newest_number low rs
newest_out low [] = refl
newest_out low (r ∷ rs) = newest_out r.number rs

pub newest_same : (rs qs : List Row) (r : Row) → SameButShares (rs ++ (r ∷ [])) qs → newest_number 0 qs ≡ r.number
newest_same rs qs r same =
    sym (newest_out 0 qs) ∙ ap (newest_number 0) same ∙ newest_out 0 (rs ++ (r ∷ [])) ∙ newest_of_push 0 rs r

pub front_same : (rs qs : List Row) (r : Row) → SameButShares (rs ++ (r ∷ [])) qs → SameButShares rs (take (length qs - 1) qs)
front_same rs qs r same =
    let count : length qs ≡ length rs + 1 = omega (arith, ap length same, length-map qs (with_left 0), length-map (rs ++ (r ∷ [])) (with_left 0), length-append rs (r ∷ [])) in
    let short : length qs - 1 ≡ length (map (with_left 0) rs) = omega (arith, count, length-map rs (with_left 0)) in
    sym (take-map (with_left 0) (length qs - 1) qs)
    ∙ ap (take (length qs - 1)) (same ∙ map_push (with_left 0) rs r)
    ∙ ap (λ n. take n (map (with_left 0) rs ++ (with_left 0 r ∷ []))) short
    ∙ take-append_seam (map (with_left 0) rs) (with_left 0 r ∷ [])
