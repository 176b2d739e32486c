use mathlib.Core.Path.{sym, ◌∙◌}
use Rattle.balances.proofs.Laws.{laws}
use Rattle.balances.proofs.balance_at.Goals as goal

pub balance_of-requires : goal.balance_of-requires
balance_of-requires c = let p = c.requires in (p.0, p.1, sym c.is_funded.ensures ∙ c.if-is_funded.true)

pub returns : goal.returns
returns c = search laws
