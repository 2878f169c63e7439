-- The fields go into the buffer one after another; each exit of a `?` is one field that does not fit after those that do.
use Rattle.std.proofs.Common.{[], refl, rules, arith}
use Rattle.register.specs.Orders.{order_fields}
use Rattle.register.proofs.Guards.{Under, FieldsPut, under, put, offset_left, none_left, refused, whole}
use Rattle.register.proofs.writer.Writer.write_order.Goals as goal
use Rattle.register.proofs.writer.Writer.write_order.Goals.{In_ok-put, In_ok-put-2, In_ok-put-3, In_ok-put-4, then-terms-ne0+in_ok-put-5, else-terms-ne0}

-- the fields so far, after each call that puts one
one_put : (c : In_ok-put) → FieldsPut 1 c.new-begun.result c.args.identifier.now c.args.terms.now c.args.left c.put.new.self
unfolding order_fields
one_put c = put (under _ _ _ _) _ refl c.in_ok-put.ensures

two_put : (c : In_ok-put-2) → FieldsPut 2 c.new-begun.result c.args.identifier.now c.args.terms.now c.args.left c.put-2.new.self
unfolding order_fields
two_put c = put (one_put (goal.at.In_ok-put-2 c).In_ok-put) _ c.codes.ensures c.in_ok-put-2.ensures

three_put : (c : In_ok-put-3) → FieldsPut 3 c.new-begun.result c.args.identifier.now c.args.terms.now c.args.left c.put-3.new.self
unfolding order_fields
three_put c = put (two_put (goal.at.In_ok-put-3 c).In_ok-put-2) _ c.to_be_bytes.ensures c.in_ok-put-3.ensures

four_put : (c : In_ok-put-4) → FieldsPut 4 c.new-begun.result c.args.identifier.now c.args.terms.now c.args.left c.put-4.new.self
unfolding order_fields
four_put c = put (three_put (goal.at.In_ok-put-4 c).In_ok-put-3) _ c.to_be_bytes-2.ensures c.in_ok-put-4.ensures

pub returns-in_err-put : goal.returns-in_err-put
unfolding order_fields
returns-in_err-put c =
    refused (under c.new-begun.result _ c.args.terms.now _) c.put.new.self refl
    c.args.self.now c.new-begun.ensures c.in_err-put.ensures c.drop-begun.ensures c.from_residual.ensures.1 (omega arith) (assumption rules)

pub returns-in_err-put-2 : goal.returns-in_err-put-2
unfolding order_fields
returns-in_err-put-2 c =
    refused (one_put (goal.at.returns-in_err-put-2 c).In_ok-put) c.put-2.new.self c.codes.ensures
    c.args.self.now c.new-begun.ensures c.in_err-put-2.ensures c.drop-begun-in_err-put-2.ensures c.from_residual-in_err-put-2.ensures.1 (omega arith) (assumption rules)

pub returns-in_err-put-3 : goal.returns-in_err-put-3
unfolding order_fields
returns-in_err-put-3 c =
    refused (two_put (goal.at.returns-in_err-put-3 c).In_ok-put-2) c.put-3.new.self c.to_be_bytes.ensures
    c.args.self.now c.new-begun.ensures c.in_err-put-3.ensures c.drop-begun-in_err-put-3.ensures c.from_residual-in_err-put-3.ensures.1 (omega arith) (assumption rules)

pub returns-in_err-put-4 : goal.returns-in_err-put-4
unfolding order_fields
returns-in_err-put-4 c =
    refused (three_put (goal.at.returns-in_err-put-4 c).In_ok-put-3) c.put-4.new.self c.to_be_bytes-2.ensures
    c.args.self.now c.new-begun.ensures c.in_err-put-4.ensures c.drop-begun-in_err-put-4.ensures c.from_residual-in_err-put-4.ensures.1 (omega arith) (assumption rules)

pub returns-in_err-put-5 : goal.returns-in_err-put-5
unfolding order_fields
returns-in_err-put-5 c =
    refused (offset_left (four_put (goal.at.returns-in_err-put-5 c).In_ok-put-4) c.if-terms-ne0.true) c.put-then-terms-ne0.new.self c.offset_bytes.ensures
    c.args.self.now c.new-begun.ensures c.in_err-put-5.ensures c.drop-begun-in_err-put-5.ensures c.from_residual-in_err-put-5.ensures.1 (omega arith) (assumption rules)

pub returns : goal.returns
unfolding order_fields
returns c =
    let four = four_put (goal.at.returns c).In_ok-put-4 in
    let all : Under c.new-begun.result c.args.identifier.now c.args.terms.now c.args.left [] c.if-terms-ne0.begun =
    elim c.if-terms-ne0.branch [
      | then-terms-ne0+in_ok-put-5 w ↦ rw w.begun-is (put (offset_left four w.if-terms-ne0.true) _ w.offset_bytes.ensures w.in_ok-put-5.ensures)
      | else-terms-ne0 w ↦ rw w.begun-is (none_left four w.if-terms-ne0.false)
    ] in
    whole c.args.self.now c.new-begun.ensures all c.finish.ensures (omega arith) (assumption rules)
