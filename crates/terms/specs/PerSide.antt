-- A value for each side, read and replaced by the side.
use Rattle.terms.specs.declared.side.Side.{Side}
use Rattle.terms.specs.declared.side.Side.TheVariants.{Buy, Sell}
use Rattle.terms.specs.declared.per_side.PerSide.{PerSide}

abbrev pub of_side : {T : Type 0} → Side → PerSide T → T
of_side Buy values = values.buy
of_side Sell values = values.sell

abbrev pub with_side : {T : Type 0} → Side → T → PerSide T → PerSide T
with_side Buy value values = record values { buy = value }
with_side Sell value values = record values { sell = value }
