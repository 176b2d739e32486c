use Rattle.clients.proofs.Laws.{account_there}
use mathlib.Core.Path.{◌∙◌}
use Rattle.clients.proofs.has_account.Goals as goal

pub returns : goal.returns
returns c = c.is_set.ensures ∙ account_there c.args.m.now c.args.i
