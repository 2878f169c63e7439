-- A sweep, line by line. Cite lines_go for a line, lines_gone and lines_alone where it ends, line_room for the tape.
use Rattle.std.proofs.Common.{◌≡◌, ℕ, zero, suc, ◌+◌, ◌≤◌, Bool, true, false, ◌&&◌, List, [], ◌∷◌, length, Some, None, fold, Option, inl, inr, sym, refl, ap, ◌∙◌, arith, length-append}
use Rattle.std.specs.Prelude.{if◌then◌else◌}
use Rattle.terms.specs.Sides.{opposite, same_side, meets}
use Rattle.terms.specs.declared.side.Side.{Side}
use Rattle.terms.specs.declared.side.Side.TheVariants.{Buy, Sell}
use Rattle.tape.specs.declared.line.Line.{Line}
use Rattle.rules.specs.Market.{Order, Market, side_of, ranked_in, reach_in, resting, lower, with_orders}
use Rattle.rules.specs.Priority.{ahead, better_of, next_partner, partner_for, line_price}
use Rattle.rules.specs.Sweep.{depletes, traded, after_trade, recorded, trade, lines, sweep}
use Rattle.rules.proofs.Calm.{lines_finish}
use Rattle.rules.proofs.Cases.{option_cases, option_none, option_some}
use Rattle.rules.proofs.Rows.{resting_in}
use Rattle.rules.proofs.Trade.{trade_shorter, partner_rests}
use Rattle.rules.proofs.Lasting.{lines_keep}
use Rattle.market.specs.Seen.{market_with, seen}
use Rattle.market.specs.declared.table.Table.{Table}
use Rattle.market.proofs.Still.{reach_still}

-- partners do not depend on the tape
module _ (ls : List Line) (b : Table) where
  better_still : (s : Side) (p : ℕ) (best : Option Order) (x : Order) → better_of (seen b) s p best x ≡ better_of (market_with ls b) s p best x
  unfolding ranked_in
  better_still s p None x =
      ap (λ r. if same_side (side_of x) s && meets s r p then Some x else None) (reach_still ls b x)
  better_still s p (Some y) x =
      ap (λ r. if (same_side (side_of x) s && meets s r p) && ahead (seen b) s p x y then Some x else Some y) (reach_still ls b x)

  fold_still : (s : Side) (p : ℕ) (best : Option Order) (os : List Order) → fold (better_of (seen b) s p) best os ≡ fold (better_of (market_with ls b) s p) best os
  fold_still s p best [] = refl
  fold_still s p best (o ∷ os) =
      ap (λ z. fold (better_of (seen b) s p) z os) (better_still s p best o) ∙ fold_still s p (better_of (market_with ls b) s p best o) os

  pub partner_still : (o : Order) (p : ℕ) → partner_for o p (seen b) ≡ partner_for o p (market_with ls b)
  unfolding next_partner
  partner_still o p = fold_still (opposite (side_of o)) p None (seen b).orders

recorded_longer : (d : Bool) (s : Side) (t q : ℕ) (o x : Order) (m : Market) → side_of x ≡ s → length (recorded d t q o x m).tape ≡ length m.tape + 1
recorded_longer false s t q o x m e = length-append m.tape _
recorded_longer true Buy t q o x m e = rw e (length-append m.tape _)
recorded_longer true Sell t q o x m e = rw e (length-append m.tape _)

pub trade_longer : (t p : ℕ) (o x : Order) (m : Market) → length (trade t p o x m).tape ≡ length m.tape + 1
unfolding trade
trade_longer t p o x m =
    recorded_longer (depletes m x (lower x.number (traded o x) m.orders)) (side_of x) t (line_price m p x) o x (with_orders (after_trade o x m.orders) m) refl

module _ (t p : ℕ) (o : Order) where
  pub lines_gone : (n : ℕ) (m : Market) → resting o.number m.orders ≡ None → lines n t p o m ≡ m
  unfolding lines
  lines_gone zero m e = refl
  lines_gone (suc n) m e = option_none (resting o.number m.orders) m _ e

  pub lines_none : (n : ℕ) (m : Market) → n ≡ 0 → lines n t p o m ≡ m
  unfolding lines
  lines_none zero m e = refl
  lines_none (suc n) m e = absurd (omega arith)

  pub lines_alone : (n : ℕ) (m : Market) (row : Order) → resting o.number m.orders ≡ Some row → partner_for o p m ≡ None → lines n t p o m ≡ m
  unfolding lines
  lines_alone zero m row e f = refl
  lines_alone (suc n) m row e f =
      option_some (resting o.number m.orders) m (λ r. elim (partner_for o p m) [ None ↦ m | Some x ↦ lines n t p o (trade t p r x m) ]) row e
      ∙ option_none (partner_for o p m) m (λ x. lines n t p o (trade t p row x m)) f

  -- with no partner, whether the order rests or not
  pub lines_idle : (n : ℕ) (m : Market) → partner_for o p m ≡ None → lines n t p o m ≡ m
  lines_idle n m f = by (resting o.number m.orders) refl
    where
      by : (r : Option Order) → resting o.number m.orders ≡ r → lines n t p o m ≡ m
      by None e = lines_gone n m e
      by (Some row) e = lines_alone n m row e f

  pub lines_go : (n : ℕ) (m : Market) (row x : Order) → resting o.number m.orders ≡ Some row → partner_for o p m ≡ Some x → lines (suc n) t p o m ≡ lines n t p o (trade t p row x m)
  unfolding lines
  lines_go n m row x e f =
      option_some (resting o.number m.orders) m (λ r. elim (partner_for o p m) [ None ↦ m | Some x ↦ lines n t p o (trade t p r x m) ]) row e
      ∙ option_some (partner_for o p m) m (λ x. lines n t p o (trade t p row x m)) x f

  pub lines_longer : (n : ℕ) (m : Market) → length m.tape ≤ length (lines n t p o m).tape
  lines_longer n m =
      lines_keep (λ r. length m.tape ≤ length r.tape) t p o (λ r row x _ _ h. omega (arith, h, trade_longer t p row x r)) n m (omega arith)

  -- each line ends an order: more turns than orders rest make no more lines
  lines_enough : (n k : ℕ) (m : Market) → length m.orders ≤ n → n ≤ k → lines n t p o m ≡ lines k t p o m
  unfolding lines
  lines_enough zero k m few more =
      elim (lines_finish t p o zero m few) [
        | inl e ↦ sym (lines_gone k m e)
        | inr f ↦ sym (lines_idle k m f)
      ]
  lines_enough (suc n) zero m few more = absurd (omega arith)
  lines_enough (suc n) (suc k) m few more =
      elim (option_cases (resting o.number m.orders)) [
        | inl e ↦ lines_gone (suc n) m e ∙ sym (lines_gone (suc k) m e)
        | inr (row, e) ↦
            elim (option_cases (partner_for o p m)) [
              | inl f ↦ lines_idle (suc n) m f ∙ sym (lines_idle (suc k) m f)
              | inr (x, f) ↦
                  lines_go n m row x e f
                  ∙ lines_enough n k (trade t p row x m) (omega (arith, trade_shorter t p row x m (resting_in o.number m.orders row e).0 (partner_rests o p m x f).0)) (omega arith)
                  ∙ sym (lines_go k m row x e f)
            ]
      ]

-- a sweep is its lines, with no fewer turns than orders rest and the reach as price
pub sweep_lines : (ls : List Line) (b : Table) (t : ℕ) (o : Order) (turns price : ℕ) → length (seen b).orders ≤ turns → price ≡ reach_in (seen b) o → sweep t o (market_with ls b) ≡ lines turns t price o (market_with ls b)
unfolding sweep
sweep_lines ls b t o turns price e f =
    lines_enough t (reach_in (market_with ls b) o) o (length (seen b).orders) turns (market_with ls b) (omega arith) e
    ∙ ap (λ p. lines turns t p o (market_with ls b)) (sym (f ∙ reach_still ls b o))

-- a line that is still to be made has room, if the whole sweep has
pub line_room : (t p : ℕ) (o : Order) (n : ℕ) (m whole : Market) (row x : Order) (here capacity : ℕ) → whole ≡ lines n t p o (trade t p row x m) → length whole.tape ≤ capacity → here ≡ capacity → length (trade t p row x m).tape ≤ here
line_room t p o n m whole row x here capacity e room same =
    omega (arith, ap (λ (r : Market). length r.tape) e, room, same, lines_longer t p o n (trade t p row x m))
