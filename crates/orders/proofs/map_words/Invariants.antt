use mathlib.Core.Path.{◌≡◌}
use Prim.Native.Nat.{◌-◌, ◌≤◌}
use lib.ListN.{length}
use Rattle.store.specs.Layout.{cell}
use Rattle.store.specs.View.{Is}
use Rattle.orders.specs.Orders.{map_words}
use Rattle.orders.proofs.map_words.Given as goal

abbrev pub invariant-loop-g : goal.invariant-loop-g
invariant-loop-g l = Is l.m (map_words l.g l.n (cell l.initial.m))
