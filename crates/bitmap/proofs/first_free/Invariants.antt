use Prim.Native.Nat.{◌-◌}
use Rattle.store.specs.Layout.{cell}
use Rattle.bitmap.proofs.Laws.{Up}
use Rattle.bitmap.proofs.first_free.Given as goal

abbrev pub invariant-loop-i : goal.invariant-loop-i
invariant-loop-i l = Up l.b (cell l.m) l.n l.j l.i

abbrev pub decreases-loop-i : goal.decreases-loop-i
decreases-loop-i l = l.n - l.i
