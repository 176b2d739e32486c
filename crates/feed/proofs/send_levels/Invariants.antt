use Rattle.outcome.proofs.Steps.{Sent}
use Rattle.feed.specs.Feed.{level_step}
use Rattle.feed.proofs.Stamps.{level_keeps}
use Rattle.feed.proofs.send_levels.Given as goal

abbrev pub invariant-loop-j : goal.invariant-loop-j
invariant-loop-j l = Sent (level_step l.s) (λ g ms k. level_keeps g ms l.s k) l.initial.m l.initial.out l.i l.m l.out l.n l.j
