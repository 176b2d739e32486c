use Rattle.outcome.proofs.Steps.{Sent}
use Rattle.feed.specs.Feed.{changes_step}
use Rattle.feed.proofs.Stamps.{changes_keeps}
use Rattle.feed.proofs.send_market.Given as goal

abbrev pub invariant-loop-s : goal.invariant-loop-s
invariant-loop-s l = Sent changes_step changes_keeps l.initial.m l.initial.out l.i l.m l.out l.n l.s
