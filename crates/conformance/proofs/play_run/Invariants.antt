use mathlib.Core.Path.{◌≡◌}
use lib.ListN.{length}
use Rattle.conformance.proofs.Laws.{Goes}
use Rattle.edge.specs.Entering.{Lent}
use Rattle.conformance.proofs.play_run.Given as goal

abbrev pub invariant-loop-left : goal.invariant-loop-left
invariant-loop-left l = Lent l.m × (length l.m ≡ length l.initial.m) × (length l.next ≡ 128) × Goes l.rows l.initial._left l.initial.next l.initial.m l.initial.same l._left l.next l.m l.same
