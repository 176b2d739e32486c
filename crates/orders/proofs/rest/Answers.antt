use Rattle.orders.proofs.Laws.{rest_is}
use Rattle.orders.proofs.rest.Goals as goal

pub returns : goal.returns
returns c =
    rest_is c.args.m.now c.args.i c.args.level c.get-n.result c.args.o c.requires.1 c.get-n.ensures
    c.set_four.ensures c.set.ensures c.set_two.ensures c.set-2.ensures c.put.ensures
