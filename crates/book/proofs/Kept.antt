-- Rows that differ in their shares alone have the same pairs. Cite tied_kept.
use Rattle.std.proofs.Common.{◌≡◌, ℕ, List, [], ◌∷◌, map, length, Some, Option, sym, refl, ap, ◌∙◌, subst}
use Rattle.std.proofs.lemmas.List.{length-map}
use Rattle.std.specs.Str.{bytes_eq}
use Rattle.std.specs.Prelude.{if◌then◌else◌}
use Rattle.market.specs.declared.table.Row.{Row}
use Rattle.market.specs.Changes.{with_left, SameButShares}
use Rattle.book.specs.Tied.{row_name, number_named, Apart, Tied}

by_name : (id : List ℕ) (rs : List Row) → number_named id (map (with_left 0) rs) ≡ number_named id rs
unfolding number_named
by_name id [] = refl
by_name id (r ∷ rs) =
    ap (λ z. if bytes_eq id (row_name r) then Some r.number else z) (by_name id rs)

apart_out : (rs : List Row) → Apart rs → Apart (map (with_left 0) rs)
apart_out [] a = tt
apart_out (r ∷ rs) a = (by_name (row_name r) rs ∙ a.0, apart_out rs a.1)

apart_back : (rs : List Row) → Apart (map (with_left 0) rs) → Apart rs
apart_back [] a = tt
apart_back (r ∷ rs) a = (sym (by_name (row_name r) rs) ∙ a.0, apart_back rs a.1)

pub tied_kept : (number : List ℕ → Option ℕ) (count : ℕ) (rs qs : List Row) → SameButShares rs qs → Tied number count rs → Tied number count qs
tied_kept number count rs qs same tied =
    record {
      known = λ id. tied.known id ∙ sym (by_name id rs) ∙ ap (number_named id) (sym same) ∙ by_name id qs;
      apart = apart_back qs (subst Apart (sym same) (apart_out rs tied.apart));
      counted = tied.counted ∙ sym (length-map rs (with_left 0)) ∙ ap length (sym same) ∙ length-map qs (with_left 0);
    }
