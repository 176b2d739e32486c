use mathlib.Core.Path.{◌∙◌}
use Rattle.pretrade.proofs.Testing.{free_is, not_free}
use Rattle.pretrade.proofs.Existing.{row_needs}
use Rattle.pretrade.proofs.is_free.Goals as goal

pub wallet_at-requires : goal.wallet_at-requires
wallet_at-requires c = row_needs c.requires.0

pub returns-then-not_negative : goal.returns-then-not_negative
returns-then-not_negative c =
    free_is c.requires.0 c.requires.1 c.args.side _ _ _ _ c.not_negative.ensures c.if-not_negative.true c.wallet_at.ensures c.covers.ensures

pub returns-else-not_negative : goal.returns-else-not_negative
returns-else-not_negative c =
    c.if-not_negative.false ∙ not_free c.requires.0 c.requires.1 c.args.side _ _ c.not_negative.ensures c.if-not_negative.false
