-- Each way out, by the tests that led to it.
use Rattle.std.proofs.Common.{◌≡◌, ◌+◌, is_some, vec_items, sym, refl, ap, ◌∙◌}
use Rattle.std.proofs.lemmas.Bool.{le-leb, lt-leb}
use Rattle.rules.specs.Calls.{named}
use Rattle.market.specs.Rows.{orders_in}
use Rattle.rules.specs.Limits.{most_entries}
use Rattle.book.proofs.EntryTests.{name_test, same_test}
use Rattle.book.proofs.engine.Engine.admit.Goals as goal
use Rattle.book.proofs.engine.Engine.admit.Goals.{After-is_some}
use Rattle.book.proofs.engine.Engine.admit.Given.{Over}

-- what the directory tells of the name is what the orders tell
known : (g : Over) (c : After-is_some g) → is_some (named c.args.id.now (orders_in (vec_items c.args.self.now.market.table.rows))) ≡ c.is_some.result
known g c =
    let here = c.args.self.now in
    sym (c.is_some.ensures ∙ ap is_some (c.find.ensures ∙ c.requires.tied.known c.args.id.now) ∙ name_test c.args.id.now (vec_items here.market.table.rows) c.requires.rests here.market.table.ascending)

pub returns-then-is_some : goal.returns-then-is_some
returns-then-is_some g c =
    sym (same_test (c.args.self.now.entries + 1) (known g (goal.at.returns-then-is_some g c).After-is_some ∙ c.if-is_some.true) refl refl)

pub returns-then-has_no_place : goal.returns-then-has_no_place
returns-then-has_no_place g c =
    sym (same_test (c.args.self.now.entries + 1) (known g (goal.at.returns-then-has_no_place g c).After-is_some ∙ c.if-is_some.false) (sym c.has_no_place.ensures ∙ c.if-has_no_place.true) refl)

pub returns-then-self-ge-MOST_ENTRIES : goal.returns-then-self-ge-MOST_ENTRIES
returns-then-self-ge-MOST_ENTRIES g c =
    let n = c.args.self.now.entries in
    sym (same_test (n + 1) (known g (goal.at.returns-then-self-ge-MOST_ENTRIES g c).After-is_some ∙ c.if-is_some.false) (sym c.has_no_place.ensures ∙ c.if-has_no_place.false) (le-leb most_entries n c.if-self-ge-MOST_ENTRIES.true))

pub returns : goal.returns
returns g c =
    let n = c.args.self.now.entries in
    sym (same_test (n + 1) (known g (goal.at.returns g c).After-is_some ∙ c.if-is_some.false) (sym c.has_no_place.ensures ∙ c.if-has_no_place.false) (lt-leb most_entries n c.if-self-ge-MOST_ENTRIES.false))
