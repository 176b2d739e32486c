use Rattle.gateway.specs.Rest.{is_present}
use mathlib.Core.Path.{ap, ◌∙◌}
use Rattle.clients.proofs.is_present.Goals as goal

pub returns : goal.returns
returns c = c.is_present.ensures ∙ ap is_present c.find_session.ensures
