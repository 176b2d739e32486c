use Rattle.gateway.specs.Rest.{is_subscribed}
use mathlib.Core.Path.{ap, ◌∙◌}
use Rattle.clients.proofs.is_subscribed.Goals as goal

pub returns : goal.returns
returns c = c.is_subscribed.ensures ∙ ap is_subscribed c.find_session.ensures
