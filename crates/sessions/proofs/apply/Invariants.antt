use Rattle.sessions.proofs.Down.{Turn}
use Rattle.sessions.proofs.apply.Given as goal

abbrev pub invariant-loop-s : goal.invariant-loop-s
invariant-loop-s l = Turn l.initial.m l.initial.out l.m l.out l.n l.s
