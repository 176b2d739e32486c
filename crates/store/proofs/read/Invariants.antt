use mathlib.Core.Path.{◌≡◌}
use Prim.Native.Nat.{◌+◌}
use lib.ListN.{take}
use Rattle.store.specs.Layout.{cell}
use Rattle.store.specs.View.{listed}
use Rattle.store.proofs.read.Given as goal

abbrev pub invariant-loop-j : goal.invariant-loop-j
invariant-loop-j it = take it.j it.vs ≡ listed (λ l. cell it.m it.b it.i (it.k + l)) it.j
