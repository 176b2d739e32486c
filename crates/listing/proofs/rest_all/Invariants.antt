use Rattle.gateway.specs.Listing.{listed_depth}
use Rattle.store.specs.Layout.{cell}
use Rattle.store.specs.View.{gateway}
use Rattle.sound.specs.Sound.{Becomes}
use Rattle.marketdata.specs.Marketdata.{with_depth}
use Rattle.listing.specs.Rows.{from}
use Rattle.listing.proofs.rest_all.Given as goal

abbrev pub invariant-loop-j : goal.invariant-loop-j
invariant-loop-j l = Becomes l.m (with_depth (λ _. listed_depth (from l.j l.list)) (gateway (cell l.initial.m)))
