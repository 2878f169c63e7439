-- By cases on each field that is read.
use Rattle.std.proofs.Common.{Err, rules, arith}
use Rattle.std.proofs.lemmas.Result.{err_from_is_err_and}
use Rattle.register.specs.Layout.{blank, with_codes, with_shares, with_limit}
use Rattle.register.specs.Reading.{read_fields}
use Rattle.register.proofs.Into.{offset_into, draft_read}
use Rattle.register.proofs.place.Place.draft.Goals as goal

pub returns-in_err-side : goal.returns-in_err-side
unfolding read_fields
returns-in_err-side c = grind (arith, err_from_is_err_and)

pub returns-in_err-shares : goal.returns-in_err-shares
unfolding read_fields
returns-in_err-shares c = grind (arith, err_from_is_err_and)

pub returns-in_err-limit : goal.returns-in_err-limit
unfolding read_fields
returns-in_err-limit c = grind (arith, err_from_is_err_and)

pub returns-in_err-offset : goal.returns-in_err-offset
unfolding read_fields
returns-in_err-offset c =
    let draft = with_limit c.in_ok-limit.limit (with_shares c.in_ok-shares.shares (with_codes c.in_ok-side.field-0 blank.draft)) in
    grind (arith, err_from_is_err_and, offset_into c.args.self.now.total c.args.self.now.start c.number-2.new.rest.now c.offset.new.rest.now (Err c.in_err-offset.field-0.0) draft c.in_err-offset.ensures)

pub returns : goal.returns
returns c =
    let read = draft_read c.args.self.now.total c.args.self.now.start c.args.rest.now.now c.in_ok-side.field-0 c.four_bytes.new.rest.now c.in_ok-shares.shares c.number.new.rest.now c.in_ok-limit.limit c.number-2.new.rest.now c.in_ok-offset.offset c.offset.new.rest.now c.in_ok-side.ensures c.in_ok-shares.ensures c.in_ok-limit.ensures c.in_ok-offset.ensures in
    search (rules, read)
