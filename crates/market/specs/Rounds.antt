-- Which orders a round sweeps.
use Rattle.std.specs.Prelude.{ℕ, Bool, List, Some, None, if◌then◌else◌, slice_get}
use Rattle.rules.specs.Market.{Order, Market}
use Rattle.rules.specs.Sweep.{sweep}
use Rattle.market.specs.declared.table.Row.{Row}
use Rattle.market.specs.Rows.{row_order}
use Rattle.rules.specs.Clock.{protected_on}
use Rattle.rules.specs.Calls.{follows_quote}
use Rattle.market.specs.declared.market.Round.{Round}
use Rattle.market.specs.declared.market.Round.TheVariants.{PeriodEnded, QuoteChanged}

abbrev pub woken : Round → Order → Bool
woken (PeriodEnded side) order = protected_on side order
woken QuoteChanged order = follows_quote order

-- one row of a round
abbrev pub swept_if : Round → ℕ → Row → Market → Market
swept_if round time row market = if woken round (row_order row) then sweep time (row_order row) market else market

-- the row at an index, where there is one
abbrev pub swept_at : Round → ℕ → ℕ → List Row → Market → Market
swept_at round time index rows market =
    elim (slice_get rows index) [ None ↦ market | Some row ↦ swept_if round time row market ]
