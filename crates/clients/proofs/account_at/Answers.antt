use Rattle.clients.proofs.Laws.{no_row}
use mathlib.Core.Path.{sym, ◌∙◌}
use Rattle.clients.proofs.account_at.Goals as goal

pub account_row-requires : goal.account_row-requires
account_row-requires c =
    (c.requires.0, c.requires.1, c.requires.2, sym c.is_set.ensures ∙ c.if-is_set.true)

pub returns-else-is_set : goal.returns-else-is_set
returns-else-is_set c = no_row c.args.m.now c.args.i _ c.is_set.ensures c.if-is_set.false
