-- The bytes of an identifier that is kept by value.
use Rattle.std.specs.Prelude.{ℕ, List, take}
use Rattle.terms.specs.declared.identifier.Identifier.{Identifier}

abbrev pub identifier_bytes : Identifier → List ℕ
identifier_bytes identifier = take identifier.len identifier.bytes
