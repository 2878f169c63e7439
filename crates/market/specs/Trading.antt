-- What a line does besides lowering rows.
use Rattle.std.specs.Prelude.{ℕ, ◌+◌, Bool, true, false, Some}
use Rattle.terms.specs.declared.side.Side.{Side}
use Rattle.tape.specs.declared.line.Mark.{Mark}
use Rattle.tape.specs.declared.line.Mark.TheVariants.{Nothing}
use Rattle.rules.specs.Limits.{protection_period}
use Rattle.rules.specs.Market.{Market, with_end}
use Rattle.rules.specs.Sweep.{side_mark}

-- the mark of a line whose partner is of the side
abbrev pub mark_if : Bool → Side → Mark
mark_if false side = Nothing
mark_if true side = side_mark side

-- the side's protection period, where the line at the time depletes
abbrev pub protected_if : Bool → ℕ → Side → Market → Market
protected_if false time side market = market
protected_if true time side market = with_end side (Some (time + protection_period)) market
