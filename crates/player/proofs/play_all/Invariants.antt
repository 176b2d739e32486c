use Rattle.edge.specs.Entering.{Lent}
use Rattle.player.proofs.play_all.Given as goal

abbrev pub invariant-loop : goal.invariant-loop
invariant-loop g l = Lent l.m × Lent l.s
