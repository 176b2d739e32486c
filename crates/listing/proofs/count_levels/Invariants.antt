use mathlib.Core.Path.{◌≡◌}
use lib.ListN.{length}
use Rattle.store.specs.View as View
use Rattle.listing.specs.Rests.{levels_from}
use Rattle.listing.proofs.count_levels.Given as goal

abbrev pub invariant-loop-j : goal.invariant-loop-j
invariant-loop-j l = l.n ≡ length (levels_from (View.side l.side) l.j l.list)
