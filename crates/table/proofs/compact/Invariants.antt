use Rattle.table.specs.Table.{Compacted}
use Prim.Native.Nat.{◌-◌, ◌≤◌}
use Rattle.table.proofs.compact.Given as goal

abbrev pub invariant-loop-i : goal.invariant-loop-i
invariant-loop-i l = Compacted l.base l.stride l.mark l.i l.w l.initial.m l.m
