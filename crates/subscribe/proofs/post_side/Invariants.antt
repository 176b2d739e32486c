use Rattle.subscribe.proofs.Shown.{Shown}
use Rattle.subscribe.proofs.Snapshot.{level_mail}
use Rattle.subscribe.proofs.post_side.Given as goal

abbrev pub invariant-loop-j : goal.invariant-loop-j
invariant-loop-j l = Shown 96 l.i (level_mail l.s l.side l.m) l.side l.m l.initial.out l.j l.k l.out
