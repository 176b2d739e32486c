use Rattle.store.specs.Layout.{cell}
use Rattle.orderbook.specs.declared.Side.TheVariants.{Buy, Sell}
use Rattle.levels.proofs.Filled.{both_listed}
use Rattle.levels.proofs.listed.listed.Goals as goal

pub best_first-bids-requires : goal.best_first-bids-requires
best_first-bids-requires c = c.requires Buy

pub best_first-asks-requires : goal.best_first-asks-requires
best_first-asks-requires c = c.requires Sell

pub returns : goal.returns
returns c =
    both_listed (cell c.args.m.now) c.best_first-bids.result c.best_first-asks.result c.best_first-bids.ensures c.best_first-asks.ensures
