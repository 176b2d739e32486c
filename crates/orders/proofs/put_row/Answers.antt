use Rattle.orders.proofs.Laws.{put_row_is}
use Rattle.orders.proofs.put_row.Goals as goal

pub returns : goal.returns
returns c =
    put_row_is c.args.m.now c.args.i c.args.number c.args.o c.requires.1
    c.set_four.ensures c.set_four-2.ensures c.set_two.ensures c.set.ensures
