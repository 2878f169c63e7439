use Rattle.std.proofs.Common.{◌+◌, ◌∷◌, ◌++◌, [], take, sym, ap, subst, add-one}
use Rattle.std.proofs.Math.Seq.{take-suc}
use Rattle.std.proofs.lemmas.List.{take_all}
use Rattle.market.specs.Reaches.{AllWithin}
use Rattle.market.proofs.Reached.{within_pushed}
use Rattle.market.proofs.reaches.farthest_of.Goals as goal

pub loop-row-preserved : goal.loop-row-preserved
loop-row-preserved c =
    let rows = c.args.rows.now in
    let i = c.loop-row.row-index in
    let row = c.row-item.result in
    within_pushed c.args.quote c.loop-row.farthest c.widen-farthest.result (take i rows) (take (i + 1) rows) row c.widen-farthest.ensures
    (rw (add-one, take-suc rows i row c.loop-row-test.true) (ap (λ x. take i rows ++ (x ∷ [])) (sym c.row-item.is)))
    c.loop-row.invariant

pub returns : goal.returns
returns c = subst (AllWithin c.args.quote c.loop-row.farthest) (take_all c.loop-row.row-index c.args.rows.now c.loop-row-test.false) c.loop-row.invariant
