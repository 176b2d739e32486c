use mathlib.Core.Path.{◌≡◌}
use Prim.Native.Nat.{◌≤◌}
use Rattle.store.specs.Layout.{cell}
use Rattle.login.specs.Login.{told_rows, first_orders}
use Rattle.login.proofs.reports.count.Given as goal

abbrev pub invariant-loop-j : goal.invariant-loop-j
invariant-loop-j l = (l.n ≡ told_rows l.a l.delivered (first_orders (cell l.m) l.j)) × (l.n ≤ l.j)
