use Rattle.table.specs.Table.{key_at, Counted}
use Prim.Native.Nat.{◌-◌, ◌≤◌}
use Rattle.table.proofs.count.Given as goal

abbrev pub invariant-loop-i : goal.invariant-loop-i
invariant-loop-i l = Counted (key_at l.base l.stride l.m) l.key l.lo l.w l.i l.c
