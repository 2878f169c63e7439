use Rattle.register.proofs.Short.{copied_is_short}
use Rattle.register.proofs.place.short_name.Goals as goal

pub returns : goal.returns
returns c = copied_is_short c.args.identifier.now c.copy_from_slice.new.self c.min-n.result c.min-n.ensures c.copy_from_slice.ensures.after
