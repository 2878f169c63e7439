-- What is told, as the rule book has it.
use Rattle.rules.specs.Market.{Order, Market, side_of, end_of}
use Rattle.rules.specs.Questions as rule
use Rattle.market.specs.declared.ranking.Standing.{Standing}
use Rattle.market.specs.declared.figures.Tally.{Tally}
use Rattle.terms.specs.declared.per_side.PerSide.{PerSide}
use Rattle.market.specs.declared.explanation.Why.{Why}
use Rattle.market.specs.declared.explanation.Why.TheVariants.{NoMdo, AtLimit, AtMidpoint, Protected, Discretion}

abbrev pub standing_as : Standing → rule.Standing
standing_as standing =
    record { number = standing.number; ranked = standing.ranked; reach = standing.reach; left = standing.left }

abbrev pub figures_as : PerSide Tally → rule.Figures
figures_as figures =
    record {
      buys = figures.buy.orders;
      buy_shares = figures.buy.shares;
      sells = figures.sell.orders;
      sell_shares = figures.sell.shares;
    }

abbrev pub why_as : Why → rule.Why
why_as NoMdo = rule.no_mdo
why_as AtLimit = rule.at_limit
why_as AtMidpoint = rule.at_midpoint
why_as (Protected line until) = rule.protected line until
why_as Discretion = rule.discretion

-- what is told of an order by its side's protection period alone
abbrev pub protection_of : Order → Market → rule.Why
protection_of order market = rule.protection market order (end_of (side_of order) market)
