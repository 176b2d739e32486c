use native.Mathlib.Omega.{arith}
use Rattle.maps.proofs.Orders.{row_inside, done_none, changed_at, of_orders}
use Rattle.maps.proofs.change.Goals as goal

pub set_leaves-requires : goal.set_leaves-requires
set_leaves-requires c = search of_orders

pub overflow_add-result : goal.overflow_add-result
overflow_add-result c =
    let h = row_inside c.args.m.now c.args.number c.find_live.result c.in-Some.i c.find_live.ensures c.in-Some.is c.requires in
    omega arith

pub returns-in-Some : goal.returns-in-Some
returns-in-Some c =
    changed_at c.args.m.now c.args.number c.find_live.result c.in-Some.i c.find_live.ensures c.in-Some.is c.args.leaves c.args.hold c.requires c.set_leaves.ensures

pub returns-in-None : goal.returns-in-None
returns-in-None c =
    done_none c.args.m.now c.args.number c.find_live.result c.find_live.ensures c.in-None.is _ c.requires
