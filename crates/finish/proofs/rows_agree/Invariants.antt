use Rattle.store.specs.Layout.{cell}
use Rattle.store.specs.View.{ledger}
use Rattle.finish.proofs.Agreed.{Agree}
use Rattle.finish.proofs.rows_agree.Given as goal

abbrev pub invariant-loop-j : goal.invariant-loop-j
invariant-loop-j l = Agree l.list (ledger (cell l.m)).orders l.j
