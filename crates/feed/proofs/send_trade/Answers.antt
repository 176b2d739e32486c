use Rattle.feed.proofs.Changes.{changes}
use Rattle.feed.proofs.send_trade.Goals as goal

pub trade_at-requires : goal.trade_at-requires
trade_at-requires c = search changes

pub returns : goal.returns
returns c = search changes
