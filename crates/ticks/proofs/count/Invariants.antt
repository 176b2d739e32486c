use Prim.Native.Nat.{◌*◌, ◌≤◌}
use Rattle.ticks.proofs.Ticked.{Counted}
use Rattle.ticks.proofs.count.Given as goal

abbrev pub invariant-loop-s : goal.invariant-loop-s
invariant-loop-s l = (l.n ≤ 2 * l.s) × Counted l.m l.time l.n l.s
