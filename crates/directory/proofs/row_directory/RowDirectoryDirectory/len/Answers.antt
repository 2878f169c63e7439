use Rattle.std.proofs.Common.{length, vec_items, refl, arith}
use Rattle.directory.proofs.Meaning.{has_pairs}
use Rattle.directory.proofs.row_directory.RowDirectoryDirectory.len.Goals as goal

pub returns-clause-means : goal.returns-clause-means
returns-clause-means c =
    let rows = c.self.inside.rows in
    rw (← c.self.view_is) (has_pairs (vec_items rows) (length (vec_items rows)) c.self.invariant.2 (omega (arith, rows.ok.0, c.self.invariant.1)) refl)
