use Rattle.orders.proofs.Laws.{squeeze_is}
use Rattle.orders.proofs.squeeze.Goals as goal

pub returns : goal.returns
returns c =
    squeeze_is c.args.m.now _ c.get-n.result c.compact-w.result c.requires.0 c.requires.1 c.get-n.ensures c.compact-w.ensures _ _ _
    c.set.ensures c.hint_rows.ensures c.map_words.ensures
