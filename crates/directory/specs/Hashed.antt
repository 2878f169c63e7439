-- What a hashed directory holds.
use Rattle.std.specs.Prelude.{ℕ, List, vec_items, Option}
use Rattle.directory.specs.declared.hashed_directory.HashedDirectory.{HashedDirectory}
use Rattle.directory.specs.Entries.{number_in}
use Rattle.directory.specs.Table.{entries_in}

abbrev pub hashed_number : HashedDirectory → List ℕ → Option ℕ
hashed_number d = number_in (entries_in (vec_items d.places))

abbrev pub hashed_count : HashedDirectory → ℕ
hashed_count d = d.held
