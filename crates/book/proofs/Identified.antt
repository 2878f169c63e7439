-- What a call knows of the identifier that it is handed: its bytes, and that they are lawful. Cite identified, lawfully and unlawful.
use Rattle.std.proofs.Common.{◌≡◌, ℕ, true, false, List, Some, None, Ok, Err, Option, Result, sym, ap, ◌∙◌, MatchOption}
use Rattle.std.specs.Prelude.{ok_or}
use Rattle.terms.specs.declared.identifier.Identifier.{Identifier}
use Rattle.terms.specs.Identifiers.{lawful_identifier}
use Rattle.terms.specs.Naming.{identifier_bytes}
use Rattle.rules.specs.declared.refusal.Refusal.{Refusal}
use Rattle.rules.specs.declared.refusal.Refusal.TheVariants as refusal

module _ (id : List ℕ) where
  -- what `Identifier::new` says
  abbrev pub Made : Option Identifier → Type 0
  Made made = MatchOption made (lawful_identifier id ≡ false) (λ i. identifier_bytes i ≡ id)

  pub identified : (made : Option Identifier) (kept : Result Identifier Refusal) (i : Identifier) → Made made → kept ≡ ok_or made refusal.Identifier → kept ≡ Ok i → identifier_bytes i ≡ id
  identified None kept i m is ok = absurd (cc)
  identified (Some j) kept i m is ok = let same : i ≡ j = cc in ap identifier_bytes same ∙ m

  pub lawfully : (i : Identifier) → identifier_bytes i ≡ id → lawful_identifier id ≡ true
  lawfully i name = sym (ap lawful_identifier name) ∙ i.lawful

  pub unlawful : (made : Option Identifier) (kept : Result Identifier Refusal) (why : Refusal) → Made made → kept ≡ ok_or made refusal.Identifier → kept ≡ Err why → (lawful_identifier id ≡ false) × (why ≡ refusal.Identifier)
  unlawful None kept why m is err = (m, cc)
  unlawful (Some j) kept why m is err = absurd (cc)
