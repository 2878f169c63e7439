use Rattle.std.specs.Prelude.{position}
use Rattle.std.specs.Str.{bytes_eq}
use Rattle.std.proofs.Common.{rules, arith, suc, ◌++◌, get_or, take, drop, Some, vec_items, sym, ap, ◌∙◌}
use Rattle.directory.specs.declared.entry.Entry.{Entry}
use Rattle.directory.specs.Entries.{number_in, distinct, entry_id}
use Rattle.directory.proofs.Distinct.{distinct_without}
use Rattle.directory.proofs.Changes.{pair_others}
use Rattle.directory.proofs.Standing.{row_none, row_stands, rows_split, standing_number}
use Rattle.directory.proofs.row_directory.RowDirectoryDirectory.remove.Goals as goal

pub invariant_of-self : goal.invariant_of-self
invariant_of-self c =
    let self = c.self.inside in
    let es = vec_items self.rows in
    let i = c.in_ok-i.i in
    let stands = row_stands es c.args.id.now i (sym (c.row_of.ensures ∙ ap (position (λ e. bytes_eq c.args.id.now (entry_id e))) (sym c.self.view_is)) ∙ c.in_ok-i.was) in
    let split = rows_split es i c.remove.result stands.within in
    let rest = distinct_without (take i es) (drop (suc i) es) (get_or es i c.remove.result) (ap distinct (sym split) ∙ c.self.invariant.2) in
    (search rules, search rules, ap distinct c.remove.ensures.items ∙ rest.1)

pub returns-in_err-i-clause-told : goal.returns-in_err-i-clause-told
returns-in_err-i-clause-told c = c.from_residual.ensures ∙ sym (row_none c.args.self.now c.args.id.now (sym c.row_of.ensures ∙ c.in_err-i.was))

pub returns : goal.returns
returns c =
    let self = c.self.inside in
    let es = vec_items self.rows in
    let id = c.args.id.now in
    let i = c.in_ok-i.i in
    let d = c.remove.result in
    let e = get_or es i d in
    let s = row_stands es id i (sym (c.row_of.ensures ∙ ap (position (λ e. bytes_eq c.args.id.now (entry_id e))) (sym c.self.view_is)) ∙ c.in_ok-i.was) in
    let split = rows_split es i d s.within in
    let rest = distinct_without (take i es) (drop (suc i) es) e (ap distinct (sym split) ∙ c.self.invariant.2) in
    let items = c.remove.ensures.items in
    rw (← c.self.view_is) (record {
      told = sym (standing_number es id i d c.self.invariant.2 s ∙ ap (λ (x : Entry). Some x.number) (sym c.remove.ensures.value));
      left = record {
        fewer = omega (arith, c.remove.ensures.len, c.remove.new.self.ok.0, c.self.inside.rows.ok.0);
        gone = ap (λ xs. number_in xs id) items ∙ ap (number_in (take i es ++ drop (suc i) es)) (sym (s.same d)) ∙ rest.0;
        others = λ k ne.
            ap (λ xs. number_in xs k) items
            ∙ sym (pair_others (take i es) (drop (suc i) es) e rest.0 k (λ h. ne (h ∙ s.same d)))
            ∙ ap (λ xs. number_in xs k) (sym split);
      };
    })
