-- Going first by three keys is a strict order, and total where the entry numbers differ.
-- Cite: first_not_back, first_not_itself, first_then, first_through (of what does not go first), first_total.
use Rattle.std.proofs.Common.{◌≡◌, ℕ, true, false, arith}
use Rattle.std.proofs.lemmas.Bool.Decides.{nat_tests}
use Rattle.terms.specs.declared.side.Side.{Side}
use Rattle.terms.specs.declared.side.Side.TheVariants.{Buy, Sell}
use Rattle.rules.specs.Priority.{goes_first}

pub first_not_back : (s : Side) (p c n q d k : ℕ) → goes_first s p c n q d k ≡ true → goes_first s q d k p c n ≡ false
first_not_back Buy p c n q d k e = grind (arith, nat_tests)
first_not_back Sell p c n q d k e = grind (arith, nat_tests)

pub first_not_itself : (s : Side) (p c n : ℕ) → goes_first s p c n p c n ≡ false
first_not_itself Buy p c n = grind (arith, nat_tests)
first_not_itself Sell p c n = grind (arith, nat_tests)

pub first_then : (s : Side) (p c n q d k u v w : ℕ) → goes_first s p c n q d k ≡ true → goes_first s q d k u v w ≡ true
    → goes_first s p c n u v w ≡ true
first_then Buy p c n q d k u v w e f = grind (arith, nat_tests)
first_then Sell p c n q d k u v w e f = grind (arith, nat_tests)

pub first_through : (s : Side) (p c n q d k u v w : ℕ) → goes_first s p c n q d k ≡ false → goes_first s q d k u v w ≡ false
    → goes_first s p c n u v w ≡ false
first_through Buy p c n q d k u v w e f = grind (arith, nat_tests)
first_through Sell p c n q d k u v w e f = grind (arith, nat_tests)

pub first_total : (s : Side) (p c n q d k : ℕ) → goes_first s p c n q d k ≡ false → (n ≡ k → ⊥) → goes_first s q d k p c n ≡ true
first_total Buy p c n q d k e f = grind (arith, nat_tests)
first_total Sell p c n q d k e f = grind (arith, nat_tests)
