use mathlib.Core.Path.{◌≡◌}
use Prim.Native.Nat.{◌-◌, ◌≤◌}
use lib.ListN.{length}
use Rattle.store.specs.Layout.{cell}
use Rattle.store.specs.View.{Is}
use Rattle.bitmap.specs.Bitmap.{emptied}
use Rattle.bitmap.proofs.clear.Given as goal

abbrev pub invariant-loop-g : goal.invariant-loop-g
invariant-loop-g l = Is l.m (emptied l.b l.g (cell l.initial.m))
