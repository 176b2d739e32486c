use Rattle.gateway.specs.Rest.{account_of}
use mathlib.Core.Path.{ap, ◌∙◌}
use Rattle.clients.proofs.account_of.Goals as goal

pub returns : goal.returns
returns c = c.minus_one.ensures ∙ c.account_of.ensures.known ∙ ap account_of c.find_session.ensures
