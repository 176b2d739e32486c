use Rattle.restore.proofs.Verdicts.{Below}
use Rattle.restore.proofs.wallets_fit.Given as goal

abbrev pub invariant-loop-j : goal.invariant-loop-j
invariant-loop-j l = Below l.limit l.bytes l.j
