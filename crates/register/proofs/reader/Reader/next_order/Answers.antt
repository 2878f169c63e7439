use Rattle.std.proofs.Common.{refl}
use Rattle.register.proofs.Tails.{tail_fits, tail_trans, tail_read_order, stands_further}
use Rattle.register.proofs.reader.Reader.next_order.Goals as goal

pub overflow_sub-place : goal.overflow_sub-place
overflow_sub-place c = tail_fits c.args.self.now.register.now c.args.self.now.rest.now c.args.self.now.end

pub invariant_of-self : goal.invariant_of-self
invariant_of-self c = record {
  end =
      tail_trans c.args.self.now.register.now c.args.self.now.rest.now c.in-Ok.rest.now c.args.self.now.end
      (tail_read_order _ c.args.self.now.rest.now _ c.in-Ok.ensures.order);
}

pub returns-in-Ok-clause-places : goal.returns-in-Ok-clause-places
returns-in-Ok-clause-places c =
    (refl, refl, stands_further c.args.self.now.register.now c.args.self.now.rest.now c.in-Ok.identifier.now 3 c.args.self.now.end c.in-Ok.ensures.part.0)
