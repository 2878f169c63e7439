use Rattle.std.proofs.Common.{◌≡◌, ℕ, ◌+◌, ◌%◌, ◌<◌, ◌≤◌, length, get_or, Some, None, vec_items, sym, refl, ap, ◌∙◌, subst, arith}
use Rattle.std.proofs.lemmas.List.{get_or_default}
use Rattle.directory.specs.Entries.{entry_id}
use Rattle.directory.specs.Table.{Places, home_place, steps}
use Rattle.directory.proofs.Gap.{Walking, walk_starts, walk_stays, walk_moves, walk_ends, walk_never_returns}
use Rattle.directory.proofs.probing.close_gap.Goals as goal
use Rattle.directory.proofs.probing.close_gap.Goals.{then-steps_between, else-steps_between}

pub loop-step-init : goal.loop-step-init
loop-step-init c = walk_starts (vec_items c.args.places.now) c.args.gap c.requires

pub returns-in_default : goal.returns-in_default
returns-in_default c =
    let ps = vec_items c.loop-step.places in
    let place = (c.args.gap + c.loop-step.step) % 128 in
    let lt : place < length ps = omega (arith, c.loop-step.invariant.whole) in
    let none : get_or ps place None ≡ None = get_or_default ps place None c.index.result.now lt ∙ sym c.index.ensures ∙ c.in_default.is in
    walk_ends (vec_items c.args.places.now) c.args.gap ps c.loop-step.hole c.loop-step.step place c.loop-step.invariant c.loop-step-test.true refl none

-- what the two counts of steps say of the pair's own home
at_home : (home own x y a b : ℕ) → home ≡ own → a ≡ steps home x → b ≡ steps home y → a < b → steps own x < steps own y
at_home home own x y a b is e f lt = subst (λ (h : ℕ). steps h x < steps h y) is (omega (arith, e, f))

not_past_home : (home own x y a b : ℕ) → home ≡ own → a ≡ steps home x → b ≡ steps home y → b ≤ a → steps own y ≤ steps own x
not_past_home home own x y a b is e f le = subst (λ (h : ℕ). steps h y ≤ steps h x) is (omega (arith, e, f))

pub loop-step-preserved : goal.loop-step-preserved
loop-step-preserved c =
    let was = vec_items c.args.places.now in
    let gap = c.args.gap in
    let ps = vec_items c.loop-step.places in
    let hole = c.loop-step.hole in
    let step = c.loop-step.step in
    let place = (gap + step) % 128 in
    let entry = c.in-Some.entry in
    let own = home_place (entry_id entry) in
    let lt : place < length ps = omega (arith, c.loop-step.invariant.whole) in
    let here : get_or ps place None ≡ Some entry = get_or_default ps place None c.index.result.now lt ∙ sym c.index.ensures ∙ c.in-Some.is in
    elim c.if-steps_between.branch [
      | then-steps_between w ↦
          subst (λ (h : ℕ). Walking was gap (vec_items c.if-steps_between.places) h (step + 1)) (sym w.hole-is)
          (subst (λ (qs : Places). Walking was gap qs place (step + 1)) (sym (ap vec_items w.places-is))
          (walk_moves was gap ps hole step place c.loop-step.invariant c.loop-step-test.true refl entry here
          (at_home c.home_of-home.result own hole place c.steps_between.result c.steps_between-in-loop-step.result c.home_of-home.ensures.value c.steps_between.ensures c.steps_between-in-loop-step.ensures w.if-steps_between.true)))
      | else-steps_between w ↦
          subst (λ (h : ℕ). Walking was gap (vec_items c.if-steps_between.places) h (step + 1)) (sym w.hole-is)
          (subst (λ (qs : Places). Walking was gap qs hole (step + 1)) (sym (ap vec_items w.places-is))
          (walk_stays was gap ps hole step place c.loop-step.invariant c.loop-step-test.true refl entry here
          (not_past_home c.home_of-home.result own hole place c.steps_between.result c.steps_between-in-loop-step.result c.home_of-home.ensures.value c.steps_between.ensures c.steps_between-in-loop-step.ensures w.if-steps_between.false)))
    ]

pub returns : goal.returns
returns c =
    absurd (walk_never_returns (vec_items c.args.places.now) c.args.gap (vec_items c.loop-step.places) c.loop-step.hole c.loop-step.step c.loop-step.invariant c.loop-step-test.false c.requires.few)
