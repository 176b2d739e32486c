use Rattle.orders.proofs.Laws.{open_row_is}
use Rattle.orders.proofs.open_row.Goals as goal

pub returns : goal.returns
returns c =
    open_row_is c.args.m.now _ c.get-n.result c.args.d c.args.p c.args.number c.requires.1 c.requires.2 c.get-n.ensures c.make_way.ensures.1
    c.put_tombstone.ensures c.rows_with.result c.rows_with.ensures c.set.ensures c.swap_bits.ensures c.set_hint.ensures
