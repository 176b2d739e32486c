use Prim.Native.Nat.{◌-◌, ◌≤◌}
use Rattle.playing.specs.Steps.{Alike}
use Rattle.playing.proofs.are_alike.Given as goal

abbrev pub invariant-loop-a : goal.invariant-loop-a
invariant-loop-a l = Alike l.a l.m l.s
