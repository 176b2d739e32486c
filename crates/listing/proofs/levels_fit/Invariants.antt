use mathlib.Core.Path.{◌≡◌}
use mathlib.Core.Bool.{true}
use Rattle.gateway.specs.Depth.{levels_fit}
use Rattle.gateway.specs.Listing.{resting_in}
use Rattle.listing.specs.Rows.{from}
use Rattle.listing.proofs.levels_fit.Given as goal

abbrev pub invariant-loop-j : goal.invariant-loop-j
invariant-loop-j l = levels_fit (resting_in (from l.j l.list)) ≡ true
