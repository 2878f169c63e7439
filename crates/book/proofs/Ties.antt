-- A row that leaves with its pair: the directory stays tied to the rows. Cite row_left.
use Rattle.std.proofs.Common.{◌≡◌, ℕ, true, false, ◌⊎◌, List, [], ◌∷◌, ◌++◌, Some, None, Option, sym, refl, ap, ◌∙◌, subst, inl, inr, arith, length-append, MatchOption}
use Rattle.std.proofs.lemmas.Slice.Eq.{bytes_eq-Decides}
use Rattle.std.specs.Prelude.{if◌then◌else◌}
use Rattle.std.proofs.lemmas.Option.{MatchOption-at_some}
use Rattle.std.proofs.lemmas.Bool.{cases_Bool}
use Rattle.std.proofs.lemmas.Bool.Decides.{not_from_Decides}
use Rattle.directory.specs.Pairs.{Removed, Kept}
use Rattle.directory.proofs.Distinct.{bytes_apart}
use Rattle.std.specs.Str.{bytes_eq}
use Rattle.rules.proofs.Cases.{if_true, if_false}
use Rattle.market.specs.declared.table.Row.{Row}
use Rattle.book.specs.Tied.{row_name, number_named, Apart, Tied}

pub clash : {n : ℕ} (o : Option ℕ) → o ≡ Some n → o ≡ None → ⊥
clash o p q = let z : ◌≡◌ {A = ℕ} 0 1 = cc in omega arith

module _ (id : List ℕ) where
  pub first : (r : Row) (rs : List Row) → bytes_eq id (row_name r) ≡ true → number_named id (r ∷ rs) ≡ Some r.number
  unfolding number_named
  first r rs h = if_true (bytes_eq id (row_name r)) (Some r.number) (number_named id rs) h

  pub later : (r : Row) (rs : List Row) → bytes_eq id (row_name r) ≡ false → number_named id (r ∷ rs) ≡ number_named id rs
  unfolding number_named
  later r rs h = if_false (bytes_eq id (row_name r)) (Some r.number) (number_named id rs) h

module _ (r : Row) (ls : List Row) where
  pub named_there : (es : List Row) → Apart (es ++ (r ∷ ls)) → number_named (row_name r) (es ++ (r ∷ ls)) ≡ Some r.number
  named_there [] a = first (row_name r) r ls ((bytes_eq-Decides (row_name r) (row_name r)).1 refl)
  named_there (x ∷ es) a = by (cases_Bool (bytes_eq (row_name r) (row_name x))) (named_there es a.1)
    where
      by : (bytes_eq (row_name r) (row_name x) ≡ true) ⊎ (bytes_eq (row_name r) (row_name x) ≡ false) → number_named (row_name r) (es ++ (r ∷ ls)) ≡ Some r.number → number_named (row_name r) (x ∷ (es ++ (r ∷ ls))) ≡ Some r.number
      by (inl h) there =
          let e = sym ((bytes_eq-Decides (row_name r) (row_name x)).0 h) in
          absurd (clash (number_named (row_name r) (es ++ (r ∷ ls))) there (subst (λ id. number_named id (es ++ (r ∷ ls)) ≡ None) e a.0))
      by (inr h) there = later (row_name r) x (es ++ (r ∷ ls)) h ∙ there

  differs : (x : Row) (es : List Row) → Apart (x ∷ (es ++ (r ∷ ls))) → row_name x ≡ row_name r → ⊥
  differs x es a e =
      clash (number_named (row_name r) (es ++ (r ∷ ls))) (named_there es a.1) (subst (λ id. number_named id (es ++ (r ∷ ls)) ≡ None) e a.0)

  pub others_stay : (id : List ℕ) → (id ≡ row_name r → ⊥) → (es : List Row) → number_named id (es ++ ls) ≡ number_named id (es ++ (r ∷ ls))
  unfolding number_named
  others_stay id other [] = sym (later id r ls (bytes_apart id (row_name r) other))
  others_stay id other (x ∷ es) =
      ap (λ z. if bytes_eq id (row_name x) then Some x.number else z) (others_stay id other es)

  pub apart_still : (es : List Row) → Apart (es ++ (r ∷ ls)) → Apart (es ++ ls)
  apart_still [] a = a.1
  apart_still (x ∷ es) a = (others_stay (row_name x) (differs x es a) es ∙ a.0, apart_still es a.1)

  pub gone : (es : List Row) → Apart (es ++ (r ∷ ls)) → number_named (row_name r) (es ++ ls) ≡ None
  gone [] a = a.0
  gone (x ∷ es) a = later (row_name r) x (es ++ ls) (bytes_apart (row_name r) (row_name x) (λ e. differs x es a (sym e))) ∙ gone es a.1

  -- the row's pair is removed with it
  pub row_left : (es : List Row) (id : List ℕ) (was is : List ℕ → Option ℕ) (had has : ℕ) (told : Option ℕ) → id ≡ row_name r → told ≡ was id → MatchOption told (Kept was had is has) (λ _. Removed id was had is has) → Tied was had (es ++ (r ∷ ls)) → Tied is has (es ++ ls)
  row_left es id was is had has told e t left tied =
      let there : told ≡ Some r.number = t ∙ tied.known id ∙ ap (λ z. number_named z (es ++ (r ∷ ls))) e ∙ named_there es tied.apart in
      let removed = MatchOption-at_some (Kept was had is has) (λ _. Removed id was had is has) r.number there left in
      record {
        known = λ k. by removed k (cases_Bool (bytes_eq k (row_name r)));
        apart = apart_still es tied.apart;
        counted = omega (arith, removed.fewer, tied.counted, length-append es (r ∷ ls), length-append es ls);
      }
    where
      by : Removed id was had is has → (k : List ℕ) → (bytes_eq k (row_name r) ≡ true) ⊎ (bytes_eq k (row_name r) ≡ false) → is k ≡ number_named k (es ++ ls)
      by removed k (inl h) =
          let same : k ≡ row_name r = (bytes_eq-Decides k (row_name r)).0 h in
          ap is (same ∙ sym e) ∙ removed.gone ∙ sym (ap (λ z. number_named z (es ++ ls)) same ∙ gone es tied.apart)
      by removed k (inr h) =
          let other : k ≡ row_name r → ⊥ = not_from_Decides (bytes_eq k (row_name r)) (bytes_eq-Decides k (row_name r)) h in
          removed.others k (λ q. other (q ∙ e)) ∙ tied.known k ∙ sym (others_stay k other es)
