-- A loop over a market that is on its way: what is still to do gives the whole. Cite: Underway as the loop's invariant, arrived
-- where the loop ends.
use Rattle.std.proofs.Common.{◌≡◌, false, Some, None, Option, is_some, vec_items, refl, sym, ◌∙◌}
use Rattle.std.specs.Prelude.{MatchOption}
use Rattle.tape.specs.declared.tape.Tape.{Ghosts as TapeOf}
use Rattle.rules.specs.Market.{Market}
use Rattle.market.specs.Changes.{SameButShares}
use Rattle.market.specs.declared.market.Market.{Market as TableAndTape}
use Rattle.market.specs.Markets.{market_of, capacity_of, Follows}

pub record Underway {T : Type 0} (t : TapeOf T) (old now : TableAndTape T) (So : Type 0) : Type 0 where
  pub so : So
  pub capacity : capacity_of t now ≡ capacity_of t old
  pub rows : SameButShares (vec_items old.table.rows) (vec_items now.table.rows)

pub arrived : {T : Type 0} (t : TapeOf T) (old now : TableAndTape T) (rule : Market → Market) (whole : Market) (So : Type 0)
    → rule (market_of t old) ≡ whole → Underway t old now So → (So → whole ≡ market_of t now) → Follows t old now rule
arrived t old now rule whole So e u over = record { market = sym (e ∙ over u.so); capacity = u.capacity; rows = u.rows }

pub none_from : {A : Type 0} (o : Option A) → is_some o ≡ false → o ≡ None
none_from None e = refl
none_from (Some x) e = cc

-- what is promised of a None, where there is no Some
pub told_none : {A P : Type 0} (Q : A → Type 0) (o : Option A) → is_some o ≡ false → MatchOption o P Q → P
told_none Q None e m = m
told_none Q (Some x) e m = cc
