-- The two sides by one text: every rule that mirrors on the other side is stated over the side, by these words.
use Rattle.std.specs.Prelude.{ℕ, min, max, Bool, true, false, nat_le, nat_lt}
use Rattle.terms.specs.declared.side.Side.{Side}
use Rattle.terms.specs.declared.side.Side.TheVariants.{Buy, Sell}

abbrev pub opposite : Side → Side
opposite Buy = Sell
opposite Sell = Buy

abbrev pub same_side : Side → Side → Bool
same_side Buy Buy = true
same_side Buy Sell = false
same_side Sell Buy = false
same_side Sell Sell = true

-- of two prices, the less aggressive one for the side: the lower for a buy, the higher for a sell
abbrev pub tamer : Side → ℕ → ℕ → ℕ
tamer Buy price other = min price other
tamer Sell price other = max price other

-- an order of the side at the first price meets or passes the other
abbrev pub meets : Side → ℕ → ℕ → Bool
meets Buy price other = nat_le other price
meets Sell price other = nat_le price other

-- for an order of the side, the first price is better to be ranked at than the other
abbrev pub outranks : Side → ℕ → ℕ → Bool
outranks Buy price other = nat_lt other price
outranks Sell price other = nat_lt price other
