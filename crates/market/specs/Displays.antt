-- The displayed shares of one order.
use Rattle.std.specs.Prelude.{ℕ, if◌then◌else◌, ◌&&◌, ◌==◌}
use Rattle.terms.specs.declared.side.Side.{Side}
use Rattle.rules.specs.Market.{Order, Market, ranked_in}
use Rattle.rules.specs.Sweep.{shows}

abbrev pub shares_there : Market → Side → ℕ → Order → ℕ
shares_there market side price order = if shows side order && ranked_in market order == price then order.left else 0
