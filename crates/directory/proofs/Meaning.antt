-- What entries without a name twice mean as a directory. Cite `has_pairs`.
use Rattle.std.proofs.Common.{◌≡◌, ℕ, ◌≤◌, true, ◌&&◌, List, [], ◌∷◌, length, refl, sym, ap, ◌∙◌, arith}
use Rattle.std.specs.List.{list_all}
use Rattle.std.proofs.lemmas.List.{length-map}
use Rattle.terms.specs.Identifiers.{lawful_identifier}
use Rattle.directory.specs.declared.entry.Entry.{Entry}
use Rattle.directory.specs.Entries.{entry_id, pairs_in, number_in, distinct}
use Rattle.directory.specs.Pairs.{HasPairs, Pair, most_pairs}

all_lawful : (es : List Entry) → list_all (λ (p : Pair). lawful_identifier p.0) (pairs_in es) ≡ true
all_lawful [] = refl
all_lawful (e ∷ es) = ap (λ b. b && list_all (λ (p : Pair). lawful_identifier p.0) (pairs_in es)) e.id.lawful ∙ all_lawful es

pub has_pairs : (es : List Entry) (count : ℕ) → distinct es ≡ true → length es ≤ most_pairs → count ≡ length es → HasPairs (number_in es) count
has_pairs es count once few counted =
    let same = length-map es (λ (e : Entry). (entry_id e, e.number)) in
    record {
      pairs = pairs_in es;
      no_name_twice = once;
      names_lawful = all_lawful es;
      few = omega (arith, same, few);
      numbered = λ id. refl;
      counted = counted ∙ sym same;
    }
