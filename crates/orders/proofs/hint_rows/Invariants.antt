use mathlib.Core.Path.{◌≡◌}
use Prim.Native.Nat.{◌-◌, ◌≤◌}
use lib.ListN.{length}
use Rattle.store.specs.Layout.{cell}
use Rattle.store.specs.View.{Is}
use Rattle.orders.specs.Orders.{hint_rows}
use Rattle.orders.proofs.hint_rows.Given as goal

abbrev pub invariant-loop-i : goal.invariant-loop-i
invariant-loop-i l = Is l.m (hint_rows l.i (cell l.initial.m))
