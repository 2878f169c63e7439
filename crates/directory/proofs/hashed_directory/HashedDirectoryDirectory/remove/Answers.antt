use Rattle.std.proofs.Common.{◌≡◌, ◌+◌, length, vec_items, vec_len, sym, ◌∙◌, arith}
use Rattle.directory.specs.Table.{entries_in}
use Rattle.directory.proofs.Tables.{found_number, gapped, count_removed, removed_here, removed_others}
use Rattle.directory.proofs.hashed_directory.HashedDirectoryDirectory.remove.Goals as goal

pub close_gap-requires : goal.close_gap-requires
close_gap-requires c =
    let self = c.args.self.now in
    let ps = vec_items self.places in
    let found = c.in-Taken.ensures in
    let whole : length ps ≡ 128 = sym self.places.ok.0 ∙ self.whole in
    gapped ps c.in-Taken.place found.pair whole found.within found.here self.chained self.apart (omega (arith, self.counted, self.few))

-- the table has one pair less than it had
one_less : (c : goal.After-close_gap) → length (entries_in (vec_items c.close_gap.new.places)) + 1 ≡ c.args.self.now.held
one_less c =
    let self = c.args.self.now in
    let ps = vec_items self.places in
    let whole : length ps ≡ 128 = sym self.places.ok.0 ∙ self.whole in
    count_removed ps (vec_items c.close_gap.new.places) c.args.id.now c.in-Taken.place c.in-Taken.number whole self.apart c.in-Taken.ensures c.close_gap.ensures ∙ sym self.counted

pub overflow_sub-self : goal.overflow_sub-self
overflow_sub-self c = let less = one_less c in omega arith

pub invariant_of-self : goal.invariant_of-self
invariant_of-self c =
    let self = c.args.self.now in
    let less = one_less c in
    let is = c.close_gap.new.places in
    let closed = c.close_gap.ensures in
    let whole : vec_len is ≡ 128 = is.ok.0 ∙ closed.whole in
    record { whole = whole; counted = omega arith; few = omega (arith, self.few); apart = closed.apart; chained = closed.chained }

pub returns : goal.returns
returns c =
    let self = c.args.self.now in
    let ps = vec_items self.places in
    let is = vec_items c.close_gap.new.places in
    let id = c.args.id.now in
    let found = c.in-Taken.ensures in
    let closed = c.close_gap.ensures in
    let whole : length ps ≡ 128 = sym self.places.ok.0 ∙ self.whole in
    let fewer = count_removed ps is id c.in-Taken.place c.in-Taken.number whole self.apart found closed ∙ sym self.counted in
    record {
      told = sym (found_number ps id c.in-Taken.place c.in-Taken.number whole self.apart found);
      left = record {
        fewer = omega arith;
        gone = removed_here ps is id c.in-Taken.place c.in-Taken.number whole self.apart found closed;
        others = removed_others ps is id c.in-Taken.place c.in-Taken.number whole self.apart found closed;
      };
    }
