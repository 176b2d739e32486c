use Prim.Native.Nat.{◌≤◌}
use mathlib.Core.Path.{◌≡◌}
use lib.ListN.{length}
use Rattle.store.specs.Layout.{cell}
use Rattle.store.specs.View.{gateway}
use Rattle.outcome.specs.Parts.{steps}
use Rattle.deliver.specs.Delivering.{phase_step}
use Rattle.deliver.proofs.count.Given as goal

abbrev pub invariant-loop-s : goal.invariant-loop-s
invariant-loop-s l = (l.k ≡ length (steps (phase_step l.n l.phase) (gateway (cell l.m)) l.s)) × (l.k ≤ l.s)
