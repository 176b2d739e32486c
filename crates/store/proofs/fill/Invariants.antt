use Rattle.store.proofs.Rows.{Filled}
use Rattle.store.proofs.fill.Given as goal

abbrev pub invariant-loop-j : goal.invariant-loop-j
invariant-loop-j l = Filled l.initial.m l.b l.i l.k l.vs l.j l.m
