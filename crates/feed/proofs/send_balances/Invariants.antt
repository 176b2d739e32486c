use Rattle.outcome.proofs.Steps.{Sent}
use Rattle.feed.specs.Feed.{notice_step}
use Rattle.feed.proofs.Stamps.{notice_keeps}
use Rattle.feed.proofs.send_balances.Given as goal

abbrev pub invariant-loop-j : goal.invariant-loop-j
invariant-loop-j l = Sent notice_step notice_keeps l.initial.m l.initial.out 0 l.m l.out l.n l.j
