use Rattle.std.proofs.Common.{◌≡◌, ◌+◌, true, length, is_some, vec_items, sym, refl, ap, ◌∙◌, arith}
use Rattle.terms.specs.Identifiers.{lawful_identifier}
use Rattle.directory.specs.declared.entry.Entry.{Entry}
use Rattle.directory.specs.Hashed.{hashed_number}
use Rattle.directory.proofs.Changes.{held_refused}
use Rattle.directory.proofs.Tables.{found_number, chained_put, apart_put, count_put, put_here, put_others}
use Rattle.directory.proofs.hashed_directory.HashedDirectoryDirectory.put.Goals as goal

pub returns-in_default-look : goal.returns-in_default-look
returns-in_default-look c =
    let self = c.args.self.now in
    let id = c.args.id.now in
    let whole : length (vec_items self.places) ≡ 128 = sym self.places.ok.0 ∙ self.whole in
    let lawful : lawful_identifier id ≡ true = sym (ap lawful_identifier c.in-Some.ensures) ∙ c.in-Some.identifier.lawful in
    let found = found_number (vec_items self.places) id c.in_default-look.field-0 c.in_default-look.field-1 whole self.apart c.in_default-look.ensures in
    record { because = held_refused id (hashed_number self id) self.held lawful (ap is_some found); same = refl; same_count = refl }

pub invariant_of-self : goal.invariant_of-self
invariant_of-self c =
    let self = c.args.self.now in
    let id = c.args.id.now in
    let ps = vec_items self.places in
    let e : Entry = record { id = c.in-Some.identifier; number = c.args.entry } in
    let p = c.in-Free.place in
    let free = c.in-Free.ensures in
    let own = c.in-Some.ensures in
    let whole : length ps ≡ 128 = sym self.places.ok.0 ∙ self.whole in
    record {
      whole = self.whole;
      counted = ap (λ n. n + 1) self.counted ∙ sym (count_put ps id p e whole free own);
      few = omega arith;
      apart = apart_put ps id p e whole free own self.apart;
      chained = chained_put ps id p e whole self.chained free own;
    }

pub returns : goal.returns
returns c =
    let self = c.args.self.now in
    let id = c.args.id.now in
    let ps = vec_items self.places in
    let e : Entry = record { id = c.in-Some.identifier; number = c.args.entry } in
    let p = c.in-Free.place in
    let free = c.in-Free.ensures in
    let own = c.in-Some.ensures in
    let whole : length ps ≡ 128 = sym self.places.ok.0 ∙ self.whole in
    record {
      lawful = sym (ap lawful_identifier c.in-Some.ensures) ∙ c.in-Some.identifier.lawful;
      fresh = free.absent;
      room = omega arith;
      more = refl;
      here = put_here ps id p e whole free own;
      others = put_others ps id p e whole free own;
    }
