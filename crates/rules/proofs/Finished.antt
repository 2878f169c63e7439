-- A sweep leaves its taker filled or alone, and settling leaves no period due; so none is due after any run.
-- Cite: sweep_finished, swept_in_finished, settle_done; the law is nothing_due.
use Rattle.std.proofs.Common.{ℕ, length, subst, arith}
use Rattle.rules.specs.Calls.{swept_in, joined}
use Rattle.rules.specs.Clock.{settle}
use Rattle.rules.specs.Finished.{FilledOrAlone, NothingDueAt, NothingDue}
use Rattle.rules.specs.Market.{Order, Market, reach_in}
use Rattle.rules.specs.Sweep.{sweep}
use Rattle.rules.proofs.Calm.{lines_finish}
use Rattle.rules.proofs.Marks.{run_later}
use Rattle.rules.proofs.Settle.{settled, none_due}
use Rattle.rules.proofs.Uncrossed.{reach_orders}

pub sweep_finished : (t : ℕ) (o : Order) (m : Market) → FilledOrAlone o (reach_in m o) (sweep t o m)
unfolding sweep
sweep_finished t o m = lines_finish t (reach_in m o) o (length m.orders) m (omega arith)

-- an order's reach is the same whether it stands among the orders or is about to
pub swept_in_finished : (t : ℕ) (o : Order) (m : Market) → FilledOrAlone o (reach_in m o) (swept_in t o m)
unfolding swept_in
swept_in_finished t o m =
    subst (λ p. FilledOrAlone o p (sweep t o (joined o m))) (reach_orders (joined o m).orders m o) (sweep_finished t o (joined o m))

pub settle_done : (t : ℕ) (m : Market) → NothingDueAt t (settle t m)
settle_done t m = none_due t (settle t m) (settled t m)

pub nothing_due : NothingDue
nothing_due bid offer room cs = none_due _ _ (run_later bid offer room cs)
