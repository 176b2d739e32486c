use mathlib.Core.Path.{◌≡◌}
use Prim.Native.Nat.{◌-◌, ◌≤◌}
use lib.ListN.{length}
use Rattle.store.specs.Layout.{cell}
use Rattle.store.specs.View.{order_room, Is}
use Rattle.orders.specs.Orders.{map_rows}
use Rattle.orders.proofs.remap.Given as goal

abbrev pub invariant-loop-i : goal.invariant-loop-i
invariant-loop-i l = Is l.m (map_rows l.i (cell l.initial.m))
