use Rattle.std.proofs.Common.{◌≡◌, [], refl, ap, ◌∙◌, length, subst, arith, rules}
use Rattle.std.proofs.lemmas.Result.{err_from_is_err_and}
use Rattle.register.specs.Readers.{register_of, rest_of}
use Rattle.book_register.specs.declared.load.Slip.{Slip}
use Rattle.book_register.specs.Faults.{slip_of}
use Rattle.book_register.proofs.Nexts.{Came, nothing_came, order_came, fault_came}
use Rattle.book_register.proofs.Attempts.{pushed_so, full_so}
use Rattle.book_register.proofs.Slips.{Pushed}
use Rattle.book_register.proofs.SoFar.{so_far_none, so_far_entered, so_far_slipped, finished, broken, slips_full}
use Rattle.book_register.proofs.load.load_register.Goals as goal
use Rattle.book_register.proofs.load.load_register.Goals.{In_ok-order}
use Rattle.book_register.proofs.load.load_register.Given.{Over}

-- the order that came
came : (g : Over) (c : In_ok-order g) → Came c.args.register.now (rest_of c.loop-next.next-iterator) (rest_of c.next.new.self) c.in_ok-order.order
came g c = let next = c.in-Some.ensures.steps in order_came _ _ _ _ c.loop-next.invariant.2 _ next.0 _ c.in_ok-order.was next.2 next.3

pub loop-next-init : goal.loop-next-init
loop-next-init g c =
    let made = c.new-next-items.ensures in
    let none = c.default-loaded.ensures in
    let same = c.into_iter-next-iterator.ensures.into_iter_gives in
    let rest = ap rest_of same ∙ made.rest in (
      tt,
      tt,
      ap register_of same ∙ made.register,
      omega (arith, none, ap length rest),
      rw (rest, none.0, none.1) (so_far_none c.args.book.now c.args.slips.now c.args.time c.args.register.now),
    )

pub returns-in_err-order : goal.returns-in_err-order
returns-in_err-order g c =
    let inv = c.loop-next.invariant in
    let next = c.in-Some.ensures.steps in
    let p = err_from_is_err_and c.from_residual.result c.from_residual.ensures.1 in
    rw (p.1, p.2) (broken _ _ _ _ _ _ _ _ _ inv.4 c.in_err-order.field-0.0 (omega (arith, next.2)) (fault_came _ _ _ _ inv.2 _ next.0 _ c.in_err-order.was))

pub loop-next-preserved-in-Ok : goal.loop-next-preserved-in-Ok
loop-next-preserved-in-Ok g c =
    let inv = c.loop-next.invariant in
    let next = c.in-Some.ensures.steps in (
      tt,
      tt,
      next.1 ∙ inv.2,
      omega (arith, inv.3, next.2),
      so_far_entered _ _ _ _ _ _ _ _ _ inv.4 _ _ (came g (goal.at.loop-next-preserved-in-Ok g c).In_ok-order) _ _ c.in-Ok.ensures refl,
    )

pub loop-next-preserved : goal.loop-next-preserved
loop-next-preserved g c =
    let inv = c.loop-next.invariant in
    let next = c.in-Some.ensures.steps in
    let pushed = pushed_so c.push.result _ _ c.in_ok-map_err-in-Err.ensures.cases c.push.ensures.pushed in
    let written = pushed_so c.push.result _ _ c.in_ok-map_err-in-Err.ensures.cases c.push.ensures.lent.1 in
    let slip : c.slip.result ≡ slip_of c.in-Err.fault = c.slip.ensures in (
      tt,
      tt,
      next.1 ∙ inv.2,
      omega (arith, inv.3, next.2),
      so_far_slipped _ _ _ _ _ _ _ _ _ inv.4 _ _ (came g (goal.at.loop-next-preserved g c).In_ok-order) _ _ c.in-Err.ensures c.in-Err.fault refl c.push.new.self
          (subst (λ (s : Slip). Pushed c.loop-next.slips c.push.new.self s) slip (record { added = pushed.0; free = pushed.1; lent = c.push.ensures.lent.0; written = written })),
    )

pub returns-in_err-map_err-in-Err : goal.returns-in_err-map_err-in-Err
returns-in_err-map_err-in-Err g c =
    let full = full_so c.in_ok-order.order.place c.in_err-map_err-in-Err.field-0.0 c.push.result _ _ _ c.in_err-map_err-in-Err.ensures.cases (λ e h. search rules) c.push.ensures.pushed in
    let still = full_so c.in_ok-order.order.place c.in_err-map_err-in-Err.field-0.0 c.push.result _ _ _ c.in_err-map_err-in-Err.ensures.cases (λ e h. search rules) c.push.ensures.lent.1 in
    let p = err_from_is_err_and c.from_residual-in_err-map_err-in-Err.result c.from_residual-in_err-map_err-in-Err.ensures.1 in
    rw (p.1, p.2, full.1)
    (slips_full _ _ _ _ _ _ _ _ _ c.loop-next.invariant.4 _ _ (came g (goal.at.returns-in_err-map_err-in-Err g c).In_ok-order) _ _ c.in-Err.ensures c.in-Err.fault refl c.push.new.self full.0.1.0 still.0.1)

pub returns : goal.returns
returns g c =
    let inv = c.loop-next.invariant in
    finished _ _ _ _ _ _ _ _ _ inv.4 (nothing_came _ _ _ [] inv.2 c.in-None.ensures.steps.0)
