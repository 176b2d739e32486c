use Rattle.table.specs.Table.{key_at, Between}
use Prim.Native.Nat.{◌+◌, ◌-◌}
use Rattle.table.proofs.bound_in.Given as goal

abbrev pub invariant-loop-left : goal.invariant-loop-left
invariant-loop-left l = Between (key_at l.base l.stride l.m) l.n l.key l.lo (l.lo + l.left)

abbrev pub decreases-loop-left : goal.decreases-loop-left
decreases-loop-left l = l.left
