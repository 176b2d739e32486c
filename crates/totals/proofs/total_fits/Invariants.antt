use Prim.Native.Nat.{◌≤◌}
use mathlib.Core.Path.{◌≡◌}
use lib.ListN.{length}
use Rattle.gateway.specs.Limits.{most_orders}
use Rattle.totals.specs.Totals.{orders_in}
use Rattle.totals.proofs.Laws.{Summed}
use Rattle.totals.proofs.total_fits.Given as goal

-- the orders from j on are summed
abbrev pub invariant-loop-j : goal.invariant-loop-j
invariant-loop-j l =
    (size : l.n ≡ length (orders_in l.from l.list)) × (few : l.n ≤ most_orders) × Summed l.fee l.account l.side (orders_in l.from l.list) l.n size few l.j l.s
