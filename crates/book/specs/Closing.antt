-- What is told of the resting orders and their names, and of the directory that a closed book hands back.
use Rattle.std.specs.Prelude.{◌≡◌, ℕ, List, [], ◌∷◌, length, None, Option}
use Rattle.std.specs.Option.{option_map}
use Rattle.rules.specs.Market.{Order}
use Rattle.rules.specs.Calls.{named}

-- no two orders have one identifier
abbrev pub DistinctNames : List Order → Type 0
DistinctNames [] = Unit {0}
DistinctNames (order ∷ orders) = (named order.identifier orders ≡ None) × DistinctNames orders

-- a directory, told by its numbers and its count, has the pairs of identifier and entry number of these orders, and no others
pub record HasPairsOf (orders : List Order) (number : List ℕ → Option ℕ) (count : ℕ) : Type 0 where
  pub known : (id : List ℕ) → number id ≡ option_map (λ (order : Order). order.number) (named id orders)
  pub counted : count ≡ length orders
