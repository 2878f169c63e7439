-- A scan over the rows is the rule book's fold over the orders that rest. Cite all_resting for a test, sum_resting with none_of
-- and few_shares for a sum of shares.
use Rattle.std.proofs.Common.{◌≡◌, ℕ, ◌+◌, ◌*◌, ◌^◌, ◌<◌, ◌≤◌, min, Bool, true, false, cond, ◌&&◌, List, [], ◌∷◌, length, get_or, fold, sym, refl, ap, ◌∙◌, inl, inr, arith}
use Rattle.std.proofs.lemmas.List.Folds.{list_all-map}
use Rattle.std.proofs.lemmas.List.Sums.{sum_by-le}
use Rattle.std.proofs.lemmas.Bool.{cases_Bool, ltb-false}
use Rattle.std.proofs.Math.Bool.{and-true, and_assoc}
use Rattle.std.specs.List.{filter, list_all, sum_by}
use Rattle.rules.specs.Market.{Order}
use Rattle.market.specs.declared.table.Row.{Row}
use Rattle.market.specs.Rows.{most_rows, row_order, rests, orders_in}
use Rattle.market.proofs.Found.{orders_of, orders_in_resting, orders_in_spent}
use Rattle.market.proofs.Joined.{orders_in_none}

-- that each order of a list passes a test
all_folded : (p : Order → Bool) (b : Bool) (os : List Order) → (b && list_all p os) ≡ fold (λ so_far o. so_far && p o) b os
all_folded p b [] = and-true b
all_folded p b (o ∷ os) = sym (and_assoc b (p o) (list_all p os)) ∙ all_folded p (b && p o) os

pub all_resting : (p : Order → Bool) (rs : List Row) → list_all (λ r. p (row_order r)) (filter rests rs) ≡ fold (λ so_far o. so_far && p o) true (orders_in rs)
all_resting p rs = sym (list_all-map p row_order (filter rests rs)) ∙ ap (list_all p) (orders_of rs) ∙ all_folded p true (orders_in rs)

-- a sum over the rows is that over the orders that rest, where a row that rests no more adds none
module _ (h : Order → ℕ) (none : (r : Row) → rests r ≡ false → h (row_order r) ≡ 0) where
  from : (a : ℕ) (rs : List Row) → fold (λ n r. n + h (row_order r)) a rs ≡ fold (λ n o. n + h o) a (orders_in rs)
  from a [] = ap (fold (λ n o. n + h o) a) (sym orders_in_none)
  from a (r ∷ rs) =
      let here = h (row_order r) in
      elim (cases_Bool (rests r)) [
        | inl t ↦ from (a + here) rs ∙ ap (fold (λ n o. n + h o) a) (sym (orders_in_resting r rs t))
        | inr f ↦
            let same : a + here ≡ a = omega (arith, none r f) in
            ap (λ n. fold (λ k x. k + h (row_order x)) n rs) same ∙ from a rs
            ∙ ap (fold (λ n o. n + h o) a) (sym (orders_in_spent r rs f))
      ]

  pub sum_resting : (rs : List Row) → sum_by (λ r. h (row_order r)) rs ≡ sum_by h (orders_in rs)
  sum_resting rs = from 0 rs

-- a row's shares, where a test of the row passes: none, where it rests no more
pub none_of : (b : Bool) (r : Row) → rests r ≡ false → cond b r.left 0 ≡ 0
none_of true r f = omega (arith, ltb-false 0 r.left f)
none_of false r f = refl

-- with so many rows at most, the sum of their shares fits
pub few_shares : (h : Row → ℕ) (rs : List Row) → length rs ≤ most_rows → sum_by (λ r. min (h r) (2 ^ 32)) rs < 2 ^ 64
few_shares h rs few =
    let most : (r : Row) → min (h r) (2 ^ 32) ≤ 2 ^ 32 = λ r. omega arith in
    let all : sum_by (λ r. min (h r) (2 ^ 32)) rs ≤ length rs * 2 ^ 32 = sum_by-le (λ r. min (h r) (2 ^ 32)) (2 ^ 32) rs (λ k d lt. most (get_or rs k d)) in
    omega arith
