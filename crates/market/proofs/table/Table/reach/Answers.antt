use Rattle.std.proofs.Common.{ap, ◌∙◌}
use Rattle.terms.specs.Prices.{reach}
use Rattle.terms.specs.Made.{terms_of}
use Rattle.rules.specs.Market.{reach_in}
use Rattle.market.proofs.table.Table.reach.Goals as goal

pub returns : goal.returns
unfolding reach_in
returns c =
    c.reach.ensures
    ∙ ap (λ b. reach (terms_of c.args.row.now.terms) b c.args.self.now.quote.bid c.args.self.now.quote.offer) c.period_runs.ensures
