use Rattle.std.proofs.Common.{◌≡◌, [], ◌∷◌, ◌++◌, is_some, None, vec_items, sym, ap, ◌∙◌, append-nil, rules}
use Rattle.terms.specs.Identifiers.{lawful_identifier}
use Rattle.directory.specs.declared.entry.Entry.{Entry}
use Rattle.directory.specs.Entries.{number_in, entry_id, distinct}
use Rattle.directory.proofs.Distinct.{distinct_between}
use Rattle.directory.proofs.Changes.{not_held, pair_here, pair_others}
use Rattle.directory.proofs.row_directory.RowDirectoryDirectory.put.Goals as goal

pub invariant_of-self : goal.invariant_of-self
invariant_of-self c =
    let self = c.self.inside in
    let es = vec_items self.rows in
    let e : Entry = record { id = c.in-Some.identifier; number = c.args.entry } in
    let fresh : number_in es c.args.id.now ≡ None = not_held _ (ap is_some (sym (c.find.ensures ∙ ap (λ es. number_in es c.args.id.now) (sym c.self.view_is))) ∙ sym c.is_some.ensures ∙ c.if-is_some.false) in
    let none : number_in (es ++ []) (entry_id e) ≡ None = ap (λ xs. number_in xs (entry_id e)) (append-nil es) ∙ ap (number_in es) c.in-Some.ensures ∙ fresh in
    (search rules, search rules, ap distinct c.push_reserved.ensures.items ∙ distinct_between es [] e none (ap distinct (append-nil es) ∙ c.self.invariant.2))

pub returns : goal.returns
returns c =
    let self = c.self.inside in
    let es = vec_items self.rows in
    let e : Entry = record { id = c.in-Some.identifier; number = c.args.entry } in
    let id = c.args.id.now in
    let items = c.push_reserved.ensures.items in
    let own = c.in-Some.ensures in
    let fresh : number_in es id ≡ None = not_held _ (ap is_some (sym (c.find.ensures ∙ ap (λ es. number_in es c.args.id.now) (sym c.self.view_is))) ∙ sym c.is_some.ensures ∙ c.if-is_some.false) in
    let none : number_in (es ++ []) (entry_id e) ≡ None = ap (λ xs. number_in xs (entry_id e)) (append-nil es) ∙ ap (number_in es) own ∙ fresh in
    rw (← c.self.view_is) (record {
      lawful = sym (ap lawful_identifier c.in-Some.ensures) ∙ c.in-Some.identifier.lawful;
      fresh = fresh;
      room = search rules;
      more = search rules;
      here = ap (λ xs. number_in xs id) items ∙ ap (number_in (es ++ e ∷ [])) (sym own) ∙ pair_here es [] e none;
      others = λ k ne. ap (λ xs. number_in xs k) items ∙ pair_others es [] e none k (λ h. ne (h ∙ own)) ∙ ap (λ xs. number_in xs k) (append-nil es);
    })
