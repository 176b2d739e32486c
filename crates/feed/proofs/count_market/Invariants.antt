use Prim.Native.Nat.{◌*◌, ◌≤◌}
use mathlib.Core.Path.{◌≡◌}
use lib.ListN.{length}
use Rattle.store.specs.Layout.{cell}
use Rattle.store.specs.View.{gateway}
use Rattle.outcome.specs.Parts.{steps}
use Rattle.feed.specs.Feed.{changes_step, most_changes}
use Rattle.feed.proofs.count_market.Given as goal

abbrev pub invariant-loop-s : goal.invariant-loop-s
invariant-loop-s l = (l.n ≡ length (steps changes_step (gateway (cell l.m)) l.s)) × (l.n ≤ most_changes * l.s)
