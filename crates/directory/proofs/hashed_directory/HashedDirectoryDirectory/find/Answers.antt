use Rattle.std.proofs.Common.{◌≡◌, length, vec_items, sym, ◌∙◌}
use Rattle.directory.proofs.Tables.{found_number}
use Rattle.directory.proofs.hashed_directory.HashedDirectoryDirectory.find.Goals as goal

pub returns-in-Taken : goal.returns-in-Taken
returns-in-Taken c =
    let self = c.args.self.now in
    let whole : length (vec_items self.places) ≡ 128 = sym self.places.ok.0 ∙ self.whole in
    sym (found_number (vec_items self.places) c.args.id.now _ c.in-Taken.number whole self.apart c.in-Taken.ensures)
