use Rattle.clients.proofs.Laws.{wallet_there}
use mathlib.Core.Path.{◌∙◌}
use Rattle.clients.proofs.is_funded.Goals as goal

pub returns : goal.returns
returns c = c.is_set.ensures ∙ wallet_there c.args.m.now c.args.i
