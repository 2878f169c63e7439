-- The figures of a side, over the rows of the table. Cite: counted for the orders, summed for their shares.
use Rattle.std.proofs.Common.{◌≡◌, ℕ, ◌+◌, Bool, true, false, cond, ◌&&◌, List, [], ◌∷◌, length, refl, arith}
use Rattle.std.proofs.lemmas.List.Sums.{sum_by-cons}
use Rattle.std.specs.List.{filter, sum_by}
use Rattle.terms.specs.Sides.{same_side}
use Rattle.terms.specs.declared.side.Side.{Side}
use Rattle.rules.specs.Market.{Order, side_of}
use Rattle.rules.specs.Questions.{count_on, shares_on}
use Rattle.market.specs.declared.table.Row.{Row}
use Rattle.market.specs.Rows.{row_order, rests, orders_in}
use Rattle.market.proofs.Folds.{sum_resting, none_of}

-- the row rests, on the side
abbrev pub rests_here : Side → Row → Bool
rests_here s r = rests r && same_side r.terms.side s

-- the shares of a row that rest on the side
abbrev pub shares_here : Side → Row → ℕ
shares_here s r = cond (same_side r.terms.side s) r.left 0

pub counted : (s : Side) (rs : List Row) → length (filter (rests_here s) rs) ≡ count_on s (orders_in rs)
unfolding orders_in
counted s [] = refl
counted s (r ∷ rs) =
    by (rests r) (same_side r.terms.side s) (sum_by-cons (λ (o : Order). cond (same_side (side_of o) s) 1 0) (row_order r) (orders_in rs)) (counted s rs)
  where
    by : (b c : Bool) → count_on s (row_order r ∷ orders_in rs) ≡ cond c 1 0 + count_on s (orders_in rs) → length (filter (rests_here s) rs) ≡ count_on s (orders_in rs) → length (cond (b && c) (r ∷ filter (rests_here s) rs) (filter (rests_here s) rs)) ≡ count_on s (cond b (row_order r ∷ orders_in rs) (orders_in rs))
    by true true h e = omega (arith, h, e)
    by true false h e = omega (arith, h, e)
    by false c h e = e

pub summed : (s : Side) (rs : List Row) → sum_by (shares_here s) rs ≡ shares_on s (orders_in rs)
summed s rs = sum_resting (λ o. cond (same_side (side_of o) s) o.left 0) (λ r f. none_of (same_side r.terms.side s) r f) rs
