use Rattle.orders.proofs.Laws.{append_is}
use native.Mathlib.Omega.{arith}
use Rattle.orders.proofs.append.Goals as goal

pub returns : goal.returns
returns c =
    append_is c.args.m.now c.args.number c.get-i.result c.get-n.result c.args.o (omega (arith, c.get-i.ensures, c.requires.1)) c.get-i.ensures c.get-n.ensures
    c.put_row.ensures c.set_two.ensures c.set_hint.ensures c.put.ensures
