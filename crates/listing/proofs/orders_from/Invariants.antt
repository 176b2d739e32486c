use mathlib.Core.Path.{◌≡◌}
use Prim.Native.Nat.{◌≤◌}
use Rattle.pending.specs.Pending.{key}
use Rattle.listing.specs.Rests.{level_from}
use Rattle.listing.proofs.orders_from.Given as goal

abbrev pub invariant-loop-j : goal.invariant-loop-j
invariant-loop-j l = (l.i ≤ l.j) × (l.n ≡ (level_from (key l.side l.price) l.j l.list).orders)
