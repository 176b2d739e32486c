use Rattle.refill.proofs.Noticing.{Noticed}
use Rattle.refill.proofs.notice_all.Given as goal

abbrev pub invariant-loop-j : goal.invariant-loop-j
invariant-loop-j l = Noticed l.bytes l.initial.m l.j l.m
