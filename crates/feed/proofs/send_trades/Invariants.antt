use Rattle.outcome.proofs.Steps.{Sent}
use Rattle.feed.specs.Feed.{trade_step}
use Rattle.feed.proofs.Stamps.{trade_keeps}
use Rattle.feed.proofs.send_trades.Given as goal

abbrev pub invariant-loop-j : goal.invariant-loop-j
invariant-loop-j l = Sent (trade_step l.s) (λ g ms k. trade_keeps g ms l.s k) l.initial.m l.initial.out l.i l.m l.out l.n l.j
