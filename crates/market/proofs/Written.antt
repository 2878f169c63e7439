-- A line that goes to a tape: what the tape has room for stays the same, and where a line is free it is written.
use Rattle.std.proofs.Common.{◌≡◌, ℕ, ◌+◌, ◌≤◌, List, [], ◌∷◌, ◌++◌, length, Ok, Err, Result, ap, arith, length-append, MatchResult}
use Rattle.tape.specs.declared.line.Line.{Line}

pub record Written (ls ls' : List Line) (f f' : ℕ) (l : Line) : Type 0 where
  pub capacity : length ls' + f' ≡ length ls + f
  pub line : 1 ≤ f → ls' ≡ ls ++ (l ∷ [])

pub written : {U E : Type 0} (r : Result U E) (ls ls' : List Line) (f f' : ℕ) (l : Line) → MatchResult r (λ _. (ls' ≡ ls ++ (l ∷ [])) × (f' + 1 ≡ f)) (λ _. (f ≡ 0) × (ls' ≡ ls) × (f' ≡ 0)) → Written ls ls' f f' l
written (Ok u) ls ls' f f' l h = record { capacity = omega (arith, ap length h.0, length-append ls (l ∷ []), h.1); line = λ _. h.0 }
written (Err e) ls ls' f f' l h = record { capacity = omega (arith, ap length h.1, h.0, h.2); line = λ k. absurd (omega (arith, h.0)) }
