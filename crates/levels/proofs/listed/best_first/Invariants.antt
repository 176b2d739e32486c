use Prim.Native.Nat.{◌-◌}
use Rattle.store.specs.Layout.{cell}
use Rattle.levels.proofs.Filled.{Filled}
use Rattle.levels.proofs.listed.best_first.Given as goal

abbrev pub invariant-loop-i : goal.invariant-loop-i
invariant-loop-i l = Filled l.side (cell l.m) l.n l.i l.k l.row
