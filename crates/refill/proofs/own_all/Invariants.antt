use Rattle.refill.proofs.Wallets.{Owned}
use Rattle.refill.proofs.own_all.Given as goal

abbrev pub invariant-loop-j : goal.invariant-loop-j
invariant-loop-j l = Owned l.bytes l.j l.initial.m l.m
