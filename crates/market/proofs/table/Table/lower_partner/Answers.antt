use Rattle.std.proofs.Common.{◌≡◌, ltb, ◌&&◌, [], ap, sym, ◌∙◌}
use Rattle.rules.specs.Market.{lower}
use Rattle.rules.specs.Sweep.{displayed, best_displayed}
use Rattle.market.specs.Rows.{row_order}
use Rattle.market.specs.Seen.{seen}
use Rattle.market.proofs.Traded.{stood_shown, stood_hidden, depletes_then, depletes_not}
use Rattle.market.proofs.table.Table.lower_partner.Goals as goal
use Rattle.market.proofs.table.Table.lower_partner.Goals.{then-is_displayed, else-is_displayed}

pub returns-then-stood_best-clause-depletes : goal.returns-then-stood_best-clause-depletes
returns-then-stood_best-clause-depletes c =
    let m = seen c.args.self.now in
    let x = row_order c.args.partner.now in
    let stood : c.if-is_displayed.stood_best ≡ (displayed x.terms.kind && best_displayed m x.terms.side c.ranked-ranked.result m.orders) =
    elim c.if-is_displayed.branch [
      | then-is_displayed w ↦ stood_shown _ _ _ (sym c.is_displayed.ensures ∙ w.if-is_displayed.true) (w.stood_best-is ∙ w.is_best_displayed-stood_best.ensures)
      | else-is_displayed w ↦ stood_hidden _ _ _ (sym c.is_displayed.ensures ∙ w.if-is_displayed.false) (w.stood_best-is ∙ c.is_displayed.ensures)
    ]
    in
    depletes_then m x (lower x.number c.args.shares m.orders) c.ranked-ranked.result c.ranked-ranked.ensures (seen c.lower.new.self) _ _ c.displayed_shares.result
    stood c.if-stood_best.true (c.lower.ensures.market []) c.displayed_shares.ensures (ap (ltb c.displayed_shares.result) c.from.ensures)

pub returns-else-stood_best-clause-depletes : goal.returns-else-stood_best-clause-depletes
returns-else-stood_best-clause-depletes c =
    let m = seen c.args.self.now in
    let x = row_order c.args.partner.now in
    let stood : c.if-is_displayed.stood_best ≡ (displayed x.terms.kind && best_displayed m x.terms.side c.ranked-ranked.result m.orders) =
    elim c.if-is_displayed.branch [
      | then-is_displayed w ↦ stood_shown _ _ _ (sym c.is_displayed.ensures ∙ w.if-is_displayed.true) (w.stood_best-is ∙ w.is_best_displayed-stood_best.ensures)
      | else-is_displayed w ↦ stood_hidden _ _ _ (sym c.is_displayed.ensures ∙ w.if-is_displayed.false) (w.stood_best-is ∙ c.is_displayed.ensures)
    ]
    in
    depletes_not m x (lower x.number c.args.shares m.orders) c.ranked-ranked.result c.ranked-ranked.ensures _ stood c.if-stood_best.false
