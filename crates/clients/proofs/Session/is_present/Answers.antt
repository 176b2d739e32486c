use Rattle.clients.proofs.Laws.{absent, present}
use Rattle.gateway.specs.Rest.{is_present}
use mathlib.Core.Path.{ap, sym}
use Rattle.clients.proofs.Session.is_present.Goals as goal

pub returns-then-self-eq0 : goal.returns-then-self-eq0
returns-then-self-eq0 c = sym (ap is_present (absent c.args.self c.if-self-eq0.true))

pub returns-else-self-eq0 : goal.returns-else-self-eq0
returns-else-self-eq0 c = present c.args.self c.if-self-eq0.false
