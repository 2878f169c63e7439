-- What putting and dropping a pair does to the numbers, in the words of the directory's contract, for a list of pairs
-- that the pair joins or leaves between `xs` and `ys`. Cite `pair_here`, `pair_others`, `pair_found`.
use Rattle.std.proofs.Common.{◌≡◌, ℕ, true, false, cond, ltb, List, ◌∷◌, ◌++◌, is_some, Some, None, Option, sym, refl, ap, ◌∙◌}
use Rattle.std.proofs.lemmas.Bool.{both_ways, cond-true}
use Rattle.std.specs.Prelude.{if◌then◌else◌}
use Rattle.std.proofs.lemmas.Slice.Eq.{bytes_eq-Decides}
use Rattle.terms.specs.Identifiers.{lawful_identifier}
use Rattle.directory.specs.declared.entry.Entry.{Entry}
use Rattle.directory.specs.Entries.{entry_id, number_in, distinct}
use Rattle.directory.specs.declared.directory.PutRefusal.TheVariants.{Unlawful, Held, Full}
use Rattle.directory.specs.Pairs.{most_pairs, put_refusal}
use Rattle.directory.proofs.Distinct.{number_between, distinct_without, bytes_apart}

module _ (xs ys : List Entry) (e : Entry) where
  -- the pair is there, and the others have the numbers that they have without it
  pub pair_here : number_in (xs ++ ys) (entry_id e) ≡ None → number_in (xs ++ e ∷ ys) (entry_id e) ≡ Some e.number
  pair_here none =
      number_between xs ys e (entry_id e) none
      ∙ ap (λ b. cond b (Some e.number) (number_in (xs ++ ys) (entry_id e))) ((bytes_eq-Decides (entry_id e) (entry_id e)).1 refl)

  pub pair_others : number_in (xs ++ ys) (entry_id e) ≡ None → (k : List ℕ) → (k ≡ entry_id e → ⊥) → number_in (xs ++ e ∷ ys) k ≡ number_in (xs ++ ys) k
  pair_others none k ne =
      number_between xs ys e k none
      ∙ ap (λ b. cond b (Some e.number) (number_in (xs ++ ys) k)) (bytes_apart k (entry_id e) ne)

  pub pair_found : distinct (xs ++ e ∷ ys) ≡ true → number_in (xs ++ e ∷ ys) (entry_id e) ≡ Some e.number
  pair_found d = pair_here (distinct_without xs ys e d).0

-- an identifier that is held is refused as such
pub held_refused : (id : List ℕ) (found : Option ℕ) (had : ℕ) → lawful_identifier id ≡ true → is_some found ≡ true → put_refusal id found had ≡ Some Held
held_refused id found had lawful held = cond-true (lawful_identifier id) _ (Some Unlawful) lawful ∙ by_case found held
  where
    by_case : (o : Option ℕ) → is_some o ≡ true
        → elim o [ Some n ↦ Some Held | None ↦ if ltb had most_pairs then None else Some Full ] ≡ Some Held
    by_case (Some n) h = refl
    by_case None h = absurd (both_ways true (sym h) refl)

pub not_held : (found : Option ℕ) → is_some found ≡ false → found ≡ None
not_held None h = refl
not_held (Some n) h = absurd (both_ways true h refl)
