use Rattle.store.specs.Layout.{cell}
use Rattle.checkpoint.specs.Put.{live_bytes, joined, Puts}
use Rattle.checkpoint.proofs.put_orders.Given as goal

abbrev pub invariant-loop-j : goal.invariant-loop-j
invariant-loop-j l = Puts l.o (joined (live_bytes (cell l.m)) l.j) l.n l.initial.out l.out
