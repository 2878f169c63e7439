-- The table as its callers see it, and as the rule book's market; the tape stands elsewhere, so its lines are handed in.
use Rattle.std.specs.Prelude.{◌≡◌, List, [], vec_items}
use Rattle.terms.specs.declared.quote.Quote.{Quote}
use Rattle.tape.specs.declared.line.Line.{Line}
use Rattle.rules.specs.Market.{Order, Market}
use Rattle.market.specs.declared.table.Row.{Row}
use Rattle.market.specs.declared.table.Table.{Table}
use Rattle.market.specs.Rows.{orders_in}

-- the rows, by ascending entry number, with shares left or without
abbrev pub rows_of : Table → List Row
rows_of table = vec_items table.rows

-- the orders that rest
abbrev pub orders_of : Table → List Order
orders_of table = orders_in (rows_of table)

abbrev pub quote_of : Table → Quote
quote_of table = table.quote

abbrev pub market_with : List Line → Table → Market
market_with lines table =
    record {
      orders = orders_of table;
      bid = table.quote.bid;
      offer = table.quote.offer;
      buy_end = table.ends.buy;
      sell_end = table.ends.sell;
      tape = lines;
    }

-- for what does not look at the tape
abbrev pub seen : Table → Market
seen table = market_with [] table

-- what a rule makes of the market, whatever is on the tape, has become of it
abbrev pub Becomes : Table → Table → (Market → Market) → Type 0
Becomes old new rule = (lines : List Line) → market_with lines new ≡ rule (market_with lines old)
