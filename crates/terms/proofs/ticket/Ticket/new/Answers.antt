-- Behind the last `?` the four codes are known.
use Rattle.std.proofs.Common.{◌≡◌, Ok, Err, ◌∙◌, rules, arith}
use Rattle.std.proofs.lemmas.Grind.{common_steps}
use Rattle.terms.specs.declared.refusal.Refusal.TheVariants.{Combination}
use Rattle.terms.specs.Terms.{OrderTerms}
use Rattle.terms.specs.Judging.{judged}
use Rattle.terms.proofs.Judging.{codes_known, apart}
use Rattle.terms.proofs.ticket.Ticket.new.Goals as goal

pub returns-then-not-contains : goal.returns-then-not-contains
returns-then-not-contains c =
    let known = codes_known c.args.draft _ _ _ _ c.in_ok-side.ensures c.in_ok-kind.ensures c.in_ok-time_in_force.ensures c.in_ok-qdp.ensures in search rules ∙ known

pub returns-then-not-contains-2 : goal.returns-then-not-contains-2
returns-then-not-contains-2 c =
    let known = codes_known c.args.draft _ _ _ _ c.in_ok-side.ensures c.in_ok-kind.ensures c.in_ok-time_in_force.ensures c.in_ok-qdp.ensures in grind (arith, common_steps)

pub returns-then-not-contains-3 : goal.returns-then-not-contains-3
returns-then-not-contains-3 c =
    let known = codes_known c.args.draft _ _ _ _ c.in_ok-side.ensures c.in_ok-kind.ensures c.in_ok-time_in_force.ensures c.in_ok-qdp.ensures in grind (arith, common_steps)

pub returns-then-not-parts_go_together : goal.returns-then-not-parts_go_together
returns-then-not-parts_go_together c =
    let w : OrderTerms = record { side = c.in_ok-side.side; kind = c.in_ok-kind.kind; time_in_force = c.in_ok-time_in_force.time_in_force; qdp = c.in_ok-qdp.qdp; shares = c.args.draft.shares; limit = c.args.draft.limit; offset = c.args.draft.offset } in
    let j : Err Combination ≡ judged w = apart w (search rules) (search rules) (search rules) (search rules) in
    let known = codes_known c.args.draft _ _ _ _ c.in_ok-side.ensures c.in_ok-kind.ensures c.in_ok-time_in_force.ensures c.in_ok-qdp.ensures in j ∙ known

pub returns : goal.returns
returns c =
    let w : OrderTerms = record { side = c.in_ok-side.side; kind = c.in_ok-kind.kind; time_in_force = c.in_ok-time_in_force.time_in_force; qdp = c.in_ok-qdp.qdp; shares = c.args.draft.shares; limit = c.args.draft.limit; offset = c.args.draft.offset } in
    let j : Ok w ≡ judged w = search rules in
    let known = codes_known c.args.draft _ _ _ _ c.in_ok-side.ensures c.in_ok-kind.ensures c.in_ok-time_in_force.ensures c.in_ok-qdp.ensures in search rules

pub invariant_of-result : goal.invariant_of-result
invariant_of-result c = record { shares_lawful = search rules; limit_lawful = search rules; offset_lawful = search rules; parts_lawful = search rules }
