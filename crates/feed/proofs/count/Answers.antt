use Rattle.feed.proofs.Calls.{count_is}
use Rattle.feed.proofs.count.Goals as goal

pub returns : goal.returns
returns c = count_is _ _ _ c.count_balances.ensures c.count_market.ensures
