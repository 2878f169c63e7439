use Rattle.std.proofs.Common.{◌≡◌, ℕ, ◌+◌, ◌%◌, ◌<◌, length, get_or, Some, None, vec_items, sym, ap, ◌∙◌, arith}
use Rattle.std.proofs.lemmas.List.{get_or_default}
use Rattle.directory.proofs.Look.{look_goes_on, look_finds, look_ends, look_never_fails}
use Rattle.directory.proofs.hashed_directory.HashedDirectory.look.Goals as goal

pub returns-in_default : goal.returns-in_default
returns-in_default c =
    let self = c.args.self.now in
    let ps = vec_items self.places in
    let step = c.loop-step.step in
    let place = (c.home_place-home.result + step) % 128 in
    let whole : length ps ≡ 128 = sym self.places.ok.0 ∙ self.whole in
    let lt : place < length ps = omega arith in
    let none : get_or ps place None ≡ None = get_or_default ps place None c.index.result.now lt ∙ sym c.index.ensures ∙ c.in_default.is in
    look_ends ps c.args.id.now step place c.loop-step.invariant c.loop-step-test.true (ap (λ (h : ℕ). (h + step) % 128) c.home_place-home.ensures.value) whole self.chained none

pub returns-then-is_of : goal.returns-then-is_of
returns-then-is_of c =
    let self = c.args.self.now in
    let ps = vec_items self.places in
    let step = c.loop-step.step in
    let place = (c.home_place-home.result + step) % 128 in
    let whole : length ps ≡ 128 = sym self.places.ok.0 ∙ self.whole in
    let lt : place < length ps = omega arith in
    let here : get_or ps place None ≡ Some c.in-Some.entry = get_or_default ps place None c.index.result.now lt ∙ sym c.index.ensures ∙ c.in-Some.is in
    look_finds ps c.args.id.now step place c.loop-step.invariant c.loop-step-test.true (ap (λ (h : ℕ). (h + step) % 128) c.home_place-home.ensures.value) c.in-Some.entry here (sym c.is_of.ensures ∙ c.if-is_of.true)

pub loop-step-preserved : goal.loop-step-preserved
loop-step-preserved c =
    let self = c.args.self.now in
    let ps = vec_items self.places in
    let step = c.loop-step.step in
    let place = (c.home_place-home.result + step) % 128 in
    let whole : length ps ≡ 128 = sym self.places.ok.0 ∙ self.whole in
    let lt : place < length ps = omega arith in
    let here : get_or ps place None ≡ Some c.in-Some.entry = get_or_default ps place None c.index.result.now lt ∙ sym c.index.ensures ∙ c.in-Some.is in
    look_goes_on ps c.args.id.now step place c.loop-step.invariant c.loop-step-test.true (ap (λ (h : ℕ). (h + step) % 128) c.home_place-home.ensures.value) c.in-Some.entry here (sym c.is_of.ensures ∙ c.if-is_of.false)

pub unreachable-requires : goal.unreachable-requires
unreachable-requires c =
    let self = c.args.self.now in
    look_never_fails (vec_items self.places) c.args.id.now c.loop-step.step c.loop-step.invariant c.loop-step-test.false (sym self.places.ok.0 ∙ self.whole) (omega (arith, self.counted, self.few))
