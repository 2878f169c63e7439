use Rattle.std.proofs.Common.{List, [], ◌∷◌, ◌++◌, ap, ◌∙◌}
use Rattle.tape.specs.declared.line.Line.{Line}
use Rattle.rules.specs.Market.{Market, with_orders, lower}
use Rattle.market.specs.Rows.{row_order}
use Rattle.market.specs.Seen.{seen}
use Rattle.market.specs.Trading.{protected_if}
use Rattle.market.proofs.Traded.{trade_is}
use Rattle.market.proofs.table.Table.trade.Goals as goal

pub returns-clause-market : goal.returns-clause-market
returns-clause-market c tape =
    let line : Line =
    record {
      time = c.args.time;
      partner = c.args.partner.now.number;
      taker = c.args.taker.now.number;
      shares = c.min-shares.result;
      price = c.line_price-line_price.result;
      mark = c.protect_if-mark.result;
    }
    in
    let longer : List Line = tape ++ (line ∷ []) in
    c.protect_if-mark.ensures.market longer
    ∙ ap (protected_if c.lower_partner-depletes.result c.args.time c.args.partner.now.terms.side)
    (c.lower.ensures.market longer
    ∙ ap (λ (z : Market). with_orders (lower c.args.taker.now.number c.min-shares.result z.orders) z) (c.lower_partner-depletes.ensures.market longer))
    ∙ trade_is c.args.time c.args.price (row_order c.args.taker.now) (row_order c.args.partner.now) (seen c.args.self.now) tape
    c.lower_partner-depletes.result c.min-shares.result c.line_price-line_price.result c.protect_if-mark.result
    c.min-shares.ensures c.lower_partner-depletes.ensures.depletes c.line_price-line_price.ensures c.protect_if-mark.ensures.mark
