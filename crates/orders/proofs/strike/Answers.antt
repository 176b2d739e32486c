use Rattle.orders.proofs.Laws.{strike_is}
use Rattle.orders.proofs.strike.Goals as goal

pub returns : goal.returns
returns c =
    strike_is c.args.k c.args.other c.args.count c.args.i c.get-kept.result c.get-n.result c.requires.0 c.requires.1 c.requires.2 c.requires.4
    c.get-kept.ensures c.get-n.ensures c.set.ensures c.set-2.ensures c.set-3.ensures c.put.ensures
