use Rattle.store.specs.Layout.{cell}
use Rattle.checkpoint.specs.Put.{slot_bytes, joined, Puts}
use Rattle.checkpoint.proofs.put_wallets.Given as goal

abbrev pub invariant-loop-a : goal.invariant-loop-a
invariant-loop-a l = Puts l.o (joined (slot_bytes (cell l.m)) l.a) l.n l.initial.out l.out
