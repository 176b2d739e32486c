use mathlib.Core.Path.{◌≡◌}
use mathlib.Core.Bool.{true}
use Rattle.replay.proofs.Alone.{free_below}
use Rattle.replay.proofs.is_alone.Given as goal

abbrev pub invariant-loop-s : goal.invariant-loop-s
invariant-loop-s l = free_below l.m l.s ≡ true
