use mathlib.Core.Path.{◌≡◌, refl}
use Prim.Native.Nat.{◌-◌}
use native.Mathlib.Omega.{arith}
use borrow.Author.Rules.{rules}
use Rattle.store.specs.View.{order_room}
use Rattle.orders.proofs.Laws.{map_none, map_more, map_all}
use Rattle.orders.proofs.remap.Goals as goal

pub loop-i-init : goal.loop-i-init
loop-i-init c =
    map_none _ c.requires

pub loop-i-preserved : goal.loop-i-preserved
loop-i-preserved c =
    map_more _ _ _ c.loop-i.i (omega arith) c.loop-i.invariant c.map_row.ensures

pub returns : goal.returns
returns c =
    let e : c.loop-i.i ≡ order_room = omega arith in
    map_all _ _ (rw e at c.loop-i.invariant)
