use Rattle.clients.proofs.Laws.{absent, subscribed}
use Rattle.gateway.specs.Rest.{is_subscribed}
use mathlib.Core.Path.{ap, sym}
use Rattle.clients.proofs.Session.is_subscribed.Goals as goal

pub returns-then-self-eq0 : goal.returns-then-self-eq0
returns-then-self-eq0 c = sym (ap is_subscribed (absent c.args.self c.if-self-eq0.true))

pub returns-else-self-eq0 : goal.returns-else-self-eq0
returns-else-self-eq0 c = subscribed c.args.self c.if-self-eq0.false
