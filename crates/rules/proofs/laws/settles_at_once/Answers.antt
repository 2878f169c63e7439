use Rattle.std.proofs.Common.{◌≡◌, ℕ, ◌<◌, ◌≤◌, ◌⊎◌, inl, inr, ap, ◌∙◌, arith}
use Rattle.std.proofs.lemmas.Bool.{cases_lt}
use Rattle.rules.specs.Clock.{settle}
use Rattle.rules.specs.Market.{Market}
use Rattle.rules.proofs.Settle.{settle_then, settle_still, settled}
use Rattle.rules.proofs.laws.settles_at_once.Goals as goal

in_turn : (first second later : ℕ) (m : Market) → (first ≤ second → second ≡ later) → (second < first → first ≡ later)
    → ((second < first) ⊎ (first ≤ second)) → settle second (settle first m) ≡ settle later m
in_turn first second later m up down (inr l) = settle_then first second m l ∙ ap (λ t. settle t m) (up l)
in_turn first second later m up down (inl l) =
    settle_still second (settle first m) (λ s e q. omega (arith, l, settled first m s e q)) ∙ ap (λ t. settle t m) (down l)

pub returns : goal.returns
returns c m =
    in_turn c.args.earlier c.args.later c.max.result m (λ l. omega (arith, c.max.ensures, l)) (λ l. omega (arith, c.max.ensures, l)) (cases_lt c.args.later c.args.earlier)
