use Rattle.rules.proofs.Trades.{lines_tell_trades}
use Rattle.rules.proofs.laws.lines_tell_trades.Goals as goal

pub returns-clause-trades : goal.returns-clause-trades
returns-clause-trades c = lines_tell_trades
