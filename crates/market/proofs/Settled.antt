-- The end of a period, and the settling of all that are due, from the steps of the code. Cite period_ended for one end, and
-- settle_ends, ends_longer and end_free for the loop; rules' Settle has the turns.
use Rattle.std.proofs.Common.{◌≡◌, ℕ, zero, suc, ◌+◌, ◌≤◌, length, None, sym, refl, ap, ◌∙◌, arith}
use Rattle.terms.specs.declared.side.Side.{Side}
use Rattle.terms.specs.declared.side.Side.TheVariants.{Buy, Sell}
use Rattle.rules.specs.Market.{Market, with_end, with_quote, those}
use Rattle.rules.specs.Clock.{protected_on, end_period, end_periods, settle}
use Rattle.rules.specs.Sweep.{sweep_each}
use Rattle.rules.proofs.Lasting.{ends_keep}
use Rattle.rules.specs.Calls.{requoted}
use Rattle.market.specs.declared.market.Round.TheVariants.{PeriodEnded, QuoteChanged}
use Rattle.market.specs.Rounds.{woken}
use Rattle.market.proofs.EachSwept.{each_longer}

same_orders : (s : Side) (m : Market) → (with_end s None m).orders ≡ m.orders
same_orders Buy m = refl
same_orders Sell m = refl

same_tape : (s : Side) (m : Market) → (with_end s None m).tape ≡ m.tape
same_tape Buy m = refl
same_tape Sell m = refl

pub period_ended : (s : Side) (e : ℕ) (m after : Market) → after ≡ with_end s None m → end_period (s, e) m ≡ sweep_each e (those (woken (PeriodEnded s)) after.orders) after
unfolding end_period
period_ended s e m after cleared =
    ap (λ os. sweep_each e (those (protected_on s) os) (with_end s None m)) (sym (same_orders s m))
    ∙ ap (λ (z : Market). sweep_each e (those (protected_on s) z.orders) z) (sym cleared)

end_longer : (d : Side × ℕ) (m : Market) → length m.tape ≤ length (end_period d m).tape
unfolding end_period
end_longer d m =
    omega (arith, each_longer d.1 (those (protected_on d.0) m.orders) (with_end d.0 None m), ap length (same_tape d.0 m))

pub ends_longer : (n t : ℕ) (m : Market) → length m.tape ≤ length (end_periods n t m).tape
ends_longer n t m =
    ends_keep (λ r. length m.tape ≤ length r.tape) t (λ d r _ h. omega (arith, h, end_longer d r)) n m (omega arith)

-- an end that is still to come has room, if the whole settling has
pub end_free : (n t : ℕ) (m whole : Market) (d : Side × ℕ) (capacity : ℕ) → whole ≡ end_periods n t (end_period d m) → length whole.tape ≤ capacity → length (end_period d m).tape ≤ capacity
end_free n t m whole d capacity e room =
    omega (arith, ap (λ (r : Market). length r.tape) e, room, ends_longer n t (end_period d m))

pub settle_ends : (t turns : ℕ) (m : Market) → turns ≡ length m.orders + 2 → settle t m ≡ end_periods turns t m
unfolding settle
settle_ends t turns m e = ap (λ n. end_periods n t m) (sym e)

pub ends_over : (n t : ℕ) (m : Market) → n ≡ 0 → end_periods n t m ≡ m
unfolding end_periods
ends_over zero t m e = refl
ends_over (suc n) t m e = absurd (omega arith)

-- a new quote, from the steps of the code
pub quoted_anew : (t bid offer : ℕ) (m after : Market) → after ≡ with_quote bid offer m → requoted t bid offer m ≡ sweep_each t (those (woken QuoteChanged) after.orders) after
quoted_anew t bid offer m after set = ap (λ (z : Market). sweep_each t (those (woken QuoteChanged) z.orders) z) (sym set)
