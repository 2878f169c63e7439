-- Both sides of the table compute to the same, once the definitions are unfolded.
use mathlib.Core.Path.{refl}
use Rattle.register.specs.Reading.{read_fields}
use Rattle.register.specs.Orders.{order_fields}
use Rattle.rules.specs.Market.{ranked_in, reach_in, resting, without, lower, those}
use Rattle.rules.specs.Priority.{next_partner}
use Rattle.rules.specs.Sweep.{best_displayed, displayed_shares, depletes, trade, lines, sweep, sweep_each}
use Rattle.rules.specs.Clock.{end_period, end_periods, settle, at_time}
use Rattle.rules.specs.Calls.{swept_in, named, done_at, call}
use Rattle.rules.specs.Questions.{placed, ranking_of, why}
use Rattle.rules.specs.Runs.{run}
use Rattle.examples.proofs.worked_examples.Goals as goal

pub returns-clause-told : goal.returns-clause-told
unfolding read_fields order_fields ranked_in reach_in resting without lower those next_partner best_displayed displayed_shares depletes trade lines sweep sweep_each end_period end_periods settle at_time swept_in named done_at call run
returns-clause-told c = refl

pub returns-clause-questions : goal.returns-clause-questions
unfolding ranked_in reach_in resting without lower those next_partner best_displayed displayed_shares depletes trade lines sweep sweep_each end_period end_periods settle at_time swept_in named done_at call run placed ranking_of why
returns-clause-questions c = (refl, refl, refl, refl, refl)

pub returns-clause-names : goal.returns-clause-names
unfolding ranked_in reach_in resting without lower those next_partner best_displayed displayed_shares depletes trade lines sweep sweep_each end_period end_periods settle at_time swept_in named done_at call
returns-clause-names c = (refl, refl)
