use Rattle.store.specs.Layout.{cell}
use Rattle.store.specs.View.{Is}
use Rattle.finish.specs.Clearing.{unrested}
use Rattle.finish.proofs.unrest_rows.Given as goal

abbrev pub invariant-loop-i : goal.invariant-loop-i
invariant-loop-i l = Is l.m (unrested l.i (cell l.initial.m))
