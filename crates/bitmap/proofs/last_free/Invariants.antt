use Rattle.store.specs.Layout.{cell}
use Rattle.bitmap.proofs.Laws.{Down}
use Rattle.bitmap.proofs.last_free.Given as goal

abbrev pub invariant-loop-i : goal.invariant-loop-i
invariant-loop-i l = Down l.b (cell l.m) l.j l.i

abbrev pub decreases-loop-i : goal.decreases-loop-i
decreases-loop-i l = l.i
