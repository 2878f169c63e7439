use Rattle.std.proofs.Common.{◌≡◌, Some, vec_items, sym, ap, ◌∙◌, subst}
use Rattle.rules.specs.Market.{Order, resting, ranked_in}
use Rattle.rules.specs.Laws.{Reason}
use Rattle.rules.specs.Questions.{Why}
use Rattle.rules.proofs.Cases.{some_same, none_some}
use Rattle.rules.proofs.Rows.{resting_in}
use Rattle.market.specs.Rows.{row_order, orders_in}
use Rattle.market.proofs.Still.{reach_still}
use Rattle.book.specs.Running.{book_of}
use Rattle.book.proofs.Named.{found_none, found_some}
use Rattle.book.proofs.Explains.{reasoned}
use Rattle.book.proofs.book.Book.why.Goals as goal

pub returns-in_err-number : goal.returns-in_err-number
returns-in_err-number g c =
    let id = c.args.id.now in
    rw (c.from_residual.ensures, ← c.self.view_is)
    (found_none id (vec_items c.self.inside.engine.market.table.rows) c.self.invariant.rests (sym (c.self.invariant.tied.known id) ∙ sym c.in_err-number.ensures))

pub returns-in_err-row : goal.returns-in_err-row
returns-in_err-row g c =
    let id = c.args.id.now in
    let table = c.self.inside.engine.market.table in
    let found = found_some id (vec_items table.rows) c.in_ok-number.number c.self.invariant.rests table.ascending (sym (c.self.invariant.tied.known id) ∙ sym c.in_ok-number.ensures) in
    absurd (none_some (resting c.in_ok-number.number (orders_in (vec_items table.rows))) found.order (sym c.in_err-row.ensures) found.rests)

pub returns : goal.returns
unfolding ranked_in
returns g c =
    let t = g.T.Tape in
    let here = c.self.inside.engine in
    let id = c.args.id.now in
    let table = here.market.table in
    let b = book_of t here in
    let k = c.in_ok-number.number in
    let orders = orders_in (vec_items table.rows) in
    let order = row_order c.in_ok-row.row in
    let found = found_some id (vec_items table.rows) k c.self.invariant.rests table.ascending (sym (c.self.invariant.tied.known id) ∙ sym c.in_ok-number.ensures) in
    let rests : resting k orders ≡ Some order = sym c.in_ok-row.ensures in
    let same : found.order ≡ order = some_same found.order order (sym found.rests ∙ rests) in
    let told = c.explain.ensures in
    rw (← c.self.view_is) (record {
      order = order;
      names = found.names ∙ ap (λ (o : Order). Some o) same;
      ranked = c.ranked.ensures;
      reach = c.reach.ensures ∙ reach_still (t.lines here.market.tape) table order;
      told = told;
      holds = subst (λ (w : Why). Reason b order w) (sym told) (reasoned g.D.Directory t here order c.self.invariant (resting_in k orders order rests).0);
    })
