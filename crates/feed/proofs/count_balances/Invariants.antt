use Prim.Native.Nat.{◌≤◌}
use mathlib.Core.Path.{◌≡◌}
use lib.ListN.{length}
use Rattle.store.specs.Layout.{cell}
use Rattle.store.specs.View.{gateway}
use Rattle.outcome.specs.Parts.{steps}
use Rattle.feed.specs.Feed.{notice_step}
use Rattle.feed.proofs.count_balances.Given as goal

abbrev pub invariant-loop-j : goal.invariant-loop-j
invariant-loop-j l = (l.n ≡ length (steps notice_step (gateway (cell l.m)) l.j)) × (l.n ≤ l.j)
