-- Of the two sides: what `same_side` tells, and that no side is its own opposite.
use Rattle.std.proofs.Common.{◌≡◌, ℕ, true, refl, arith}
use Rattle.terms.specs.Sides.{same_side, opposite}
use Rattle.terms.specs.declared.side.Side.{Side}
use Rattle.terms.specs.declared.side.Side.TheVariants.{Buy, Sell}

pub same_side_is : (a b : Side) → same_side a b ≡ true → a ≡ b
same_side_is Buy Buy e = refl
same_side_is Sell Sell e = refl
same_side_is Buy Sell e = cc
same_side_is Sell Buy e = cc

pub same_side_itself : (s : Side) → same_side s s ≡ true
same_side_itself Buy = refl
same_side_itself Sell = refl

pub not_opposite : (s : Side) → s ≡ opposite s → ⊥
not_opposite Buy e = let z : ◌≡◌ {A = ℕ} 0 1 = cc in omega arith
not_opposite Sell e = let z : ◌≡◌ {A = ℕ} 0 1 = cc in omega arith

pub opposite_twice : (s z : Side) → s ≡ opposite z → z ≡ opposite s
opposite_twice Buy Sell e = refl
opposite_twice Sell Buy e = refl
opposite_twice Buy Buy e = absurd (not_opposite Buy e)
opposite_twice Sell Sell e = absurd (not_opposite Sell e)
