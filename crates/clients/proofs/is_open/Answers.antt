use Rattle.gateway.specs.Rest.{is_open}
use mathlib.Core.Path.{ap, ◌∙◌}
use Rattle.clients.proofs.is_open.Goals as goal

pub returns : goal.returns
returns c = c.is_open.ensures ∙ ap is_open c.find_session.ensures
