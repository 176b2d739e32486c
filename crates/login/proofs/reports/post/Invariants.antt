use Rattle.login.proofs.Told.{Posted}
use Rattle.login.proofs.reports.post.Given as goal

abbrev pub invariant-loop-j : goal.invariant-loop-j
invariant-loop-j l = Posted l.m l.s l.a l.i l.initial.out l.out l.n l.j
