-- By cases on each field that is read.
use Rattle.std.proofs.Common.{arith}
use Rattle.std.proofs.lemmas.Result.{err_from_is_err_and}
use Rattle.register.specs.Reading.{read_fields}
use Rattle.register.proofs.Tails.{order_shortens}
use Rattle.register.proofs.place.read_order.Goals as goal

pub returns-in_err-identifier-clause-order : goal.returns-in_err-identifier-clause-order
unfolding read_fields
returns-in_err-identifier-clause-order c = grind (arith, err_from_is_err_and)

pub returns-in_err-short_name-clause-order : goal.returns-in_err-short_name-clause-order
unfolding read_fields
returns-in_err-short_name-clause-order c = grind (arith, err_from_is_err_and, c.in_err-short_name.ensures)

pub returns-in_err-draft-clause-order : goal.returns-in_err-draft-clause-order
unfolding read_fields
returns-in_err-draft-clause-order c = grind (arith, err_from_is_err_and, c.in_ok-short_name.ensures, c.in_err-draft.ensures)

pub returns-clause-order : goal.returns-clause-order
unfolding read_fields
returns-clause-order c = grind (arith, c.in_ok-short_name.ensures, c.in_ok-draft.ensures)

pub returns-clause-shorter : goal.returns-clause-shorter
returns-clause-shorter c = order_shortens _ _ _ (returns-clause-order c)
