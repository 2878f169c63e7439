use Rattle.std.proofs.Common.{◌≡◌, sym, subst, rules}
use Rattle.rules.specs.Laws.{after_clock, RefusalLeaves}
use Rattle.rules.proofs.Refusals.{refusal_leaves}
use Rattle.rules.proofs.refusal.Refusal.moves_clock.Goals as goal

pub returns-clause-leaves : goal.returns-clause-leaves
returns-clause-leaves c =
    let told : c.gt.result ≡ after_clock c.args.self = grind rules in
    subst (RefusalLeaves c.args.self) (sym told) (refusal_leaves c.args.self)
