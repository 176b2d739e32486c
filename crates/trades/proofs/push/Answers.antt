use Rattle.trades.proofs.Applying.{applying}
use Rattle.trades.proofs.push.Goals as goal

pub push_trade-requires : goal.push_trade-requires
push_trade-requires c = search applying

pub returns : goal.returns
returns c = search applying
