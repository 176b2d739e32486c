use mathlib.Core.Path.{◌≡◌}
use Prim.Native.Nat.{◌*◌, ◌≤◌}
use lib.ListN.{length}
use Rattle.store.specs.Layout.{cell}
use Rattle.checkpoint.specs.Put.{slot_bytes, joined}
use Rattle.checkpoint.proofs.wallets.Given as goal

abbrev pub invariant-loop-a : goal.invariant-loop-a
invariant-loop-a l = (20 * l.n ≡ length (joined (slot_bytes (cell l.m)) l.a)) × (l.n ≤ l.a)
