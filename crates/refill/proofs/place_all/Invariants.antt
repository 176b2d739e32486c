use Prim.Native.Nat.{◌≤◌}
use lib.ListN.{length}
use Rattle.gateway.specs.Limits.{most_orders}
use Rattle.saved.specs.Contents.{saved_of}
use Rattle.refill.specs.Refill.{Fits, Empty}
use Rattle.refill.proofs.Placing.{Placed}
use Rattle.refill.proofs.place_all.Given as goal

abbrev pub invariant-loop-j : goal.invariant-loop-j
invariant-loop-j l =
    (e : Empty (saved_of l.bytes) l.initial.m) × (f : Fits (saved_of l.bytes)) × (few : length (saved_of l.bytes).orders ≤ most_orders) × Placed l.bytes l.initial.m e f few l.j l.m
