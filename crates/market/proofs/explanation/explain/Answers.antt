use Rattle.std.proofs.Common.{◌+◌, ap, ◌∙◌}
use Rattle.terms.specs.declared.quote.Quote.{Quote}
use Rattle.market.specs.Rows.{row_order}
use Rattle.market.specs.Markets.{market_of}
use Rattle.market.proofs.Reasons.{no_mdo_told, at_limit_told, at_midpoint_told, without_qdp_told, with_qdp_told}
use Rattle.market.proofs.explanation.explain.Goals as goal

pub returns-then-not-is_mdo : goal.returns-then-not-is_mdo
returns-then-not-is_mdo g c =
    no_mdo_told (market_of g.T.Tape c.args.market.now) (row_order c.args.row.now) c.if-not-is_mdo.ensures

pub returns-then-ranked-row : goal.returns-then-ranked-row
returns-then-ranked-row g c =
    at_limit_told (g.T.Tape.lines c.args.market.now.tape) c.args.market.now.table (row_order c.args.row.now) c.ranked-ranked.result (c.quote-quote.result.bid + c.quote-quote.result.offer)
    c.ranked-ranked.ensures (ap (λ (q : Quote). q.bid + q.offer) c.quote-quote.ensures) c.if-not-is_mdo.ensures
    c.if-ranked-row.true

pub returns-then-ranked-quote : goal.returns-then-ranked-quote
returns-then-ranked-quote g c =
    at_midpoint_told (g.T.Tape.lines c.args.market.now.tape) c.args.market.now.table (row_order c.args.row.now) c.ranked-ranked.result (c.quote-quote.result.bid + c.quote-quote.result.offer)
    c.ranked-ranked.ensures (ap (λ (q : Quote). q.bid + q.offer) c.quote-quote.ensures) c.if-not-is_mdo.ensures
    c.if-ranked-row.false c.if-ranked-quote.true

pub returns-then-not-row : goal.returns-then-not-row
returns-then-not-row g c =
    without_qdp_told (g.T.Tape.lines c.args.market.now.tape) c.args.market.now.table (row_order c.args.row.now) c.ranked-ranked.result (c.quote-quote.result.bid + c.quote-quote.result.offer)
    c.ranked-ranked.ensures (ap (λ (q : Quote). q.bid + q.offer) c.quote-quote.ensures) c.if-not-is_mdo.ensures
    c.if-ranked-row.false c.if-ranked-quote.false c.if-not-row.true

pub returns : goal.returns
returns g c =
    c.protection.ensures
    ∙ with_qdp_told (g.T.Tape.lines c.args.market.now.tape) c.args.market.now.table (row_order c.args.row.now) c.ranked-ranked.result (c.quote-quote.result.bid + c.quote-quote.result.offer)
    c.ranked-ranked.ensures (ap (λ (q : Quote). q.bid + q.offer) c.quote-quote.ensures) c.if-not-is_mdo.ensures
    c.if-ranked-row.false c.if-ranked-quote.false c.if-not-row.false
