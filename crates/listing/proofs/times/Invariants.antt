use mathlib.Core.Path.{◌≡◌}
use Rattle.gateway.specs.Listing.{listed_times}
use Rattle.listing.specs.Rows.{from}
use Rattle.listing.proofs.times.Given as goal

abbrev pub invariant-loop-j : goal.invariant-loop-j
invariant-loop-j l = l.n ≡ listed_times l.number (from l.j l.list)
