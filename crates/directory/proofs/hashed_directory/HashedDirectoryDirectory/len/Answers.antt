use Rattle.std.proofs.Common.{vec_items, arith}
use Rattle.directory.specs.Table.{entries_in}
use Rattle.directory.proofs.Meaning.{has_pairs}
use Rattle.directory.proofs.hashed_directory.HashedDirectoryDirectory.len.Goals as goal

pub returns-clause-means : goal.returns-clause-means
returns-clause-means c =
    let self = c.args.self.now in
    has_pairs (entries_in (vec_items self.places)) self.held self.apart (omega (arith, self.counted, self.few)) self.counted
