use Rattle.store.specs.Layout.{cell}
use Rattle.pending.specs.Pending.{key}
use Rattle.pending.proofs.Chain.{Passed}
use Rattle.pending.proofs.changed.is_in.Given as goal

abbrev pub invariant-loop-n : goal.invariant-loop-n
invariant-loop-n l = Passed (cell l.m) (key l.side l.price) l.n

abbrev pub decreases-loop-n : goal.decreases-loop-n
decreases-loop-n l = l.n
