use native.Mathlib.Omega.{arith}
use Rattle.maps.proofs.Orders.{row_inside, done_none, removed_at, of_orders}
use Rattle.maps.proofs.remove.Goals as goal

pub retire-requires : goal.retire-requires
retire-requires c = search of_orders

pub overflow_add-result : goal.overflow_add-result
overflow_add-result c =
    let h = row_inside c.args.m.now c.args.number c.find_live.result c.in-Some.i c.find_live.ensures c.in-Some.is c.requires in
    omega arith

pub returns-in-Some : goal.returns-in-Some
returns-in-Some c =
    removed_at c.args.m.now c.args.number c.find_live.result c.in-Some.i c.find_live.ensures c.in-Some.is c.requires c.retire.ensures

pub returns-in-None : goal.returns-in-None
returns-in-None c =
    done_none c.args.m.now c.args.number c.find_live.result c.find_live.ensures c.in-None.is _ c.requires
