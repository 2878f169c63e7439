use Rattle.std.proofs.Common.{Some, vec_items, sym, ap, ◌∙◌}
use Rattle.std.specs.Prelude.{position}
use Rattle.std.specs.Str.{bytes_eq}
use Rattle.directory.specs.Entries.{entry_id}
use Rattle.directory.specs.declared.entry.Entry.{Entry}
use Rattle.directory.proofs.Standing.{row_none, row_stands, standing_number}
use Rattle.directory.proofs.row_directory.RowDirectoryDirectory.find.Goals as goal

pub returns-in_err-i : goal.returns-in_err-i
returns-in_err-i c = c.from_residual.ensures ∙ sym (row_none c.args.self.now c.args.id.now (sym c.row_of.ensures ∙ c.in_err-i.was))

pub returns : goal.returns
returns c =
    let self = c.self.inside in
    let stands = row_stands (vec_items self.rows) c.args.id.now c.in_ok-i.i (sym (c.row_of.ensures ∙ ap (position (λ e. bytes_eq c.args.id.now (entry_id e))) (sym c.self.view_is)) ∙ c.in_ok-i.was) in
    rw (← c.self.view_is) (sym (standing_number (vec_items self.rows) c.args.id.now c.in_ok-i.i c.index.result.now c.self.invariant.2 stands ∙ ap (λ (e : Entry). Some e.number) (sym c.index.ensures)))
