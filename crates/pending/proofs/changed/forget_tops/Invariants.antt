use mathlib.Core.Path.{◌≡◌}
use Prim.Native.Nat.{◌-◌, ◌≤◌}
use lib.ListN.{length}
use Rattle.store.specs.Layout.{cell}
use Rattle.store.specs.View.{Is}
use Rattle.pending.specs.Pending.{forget_tops}
use Rattle.pending.proofs.changed.forget_tops.Given as goal

abbrev pub invariant-loop-i : goal.invariant-loop-i
invariant-loop-i l = Is l.m (forget_tops l.i (cell l.initial.m))
