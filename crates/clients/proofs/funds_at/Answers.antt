use Rattle.clients.proofs.Laws.{funds_some, funds_none}
use Rattle.clients.proofs.funds_at.Goals as goal

pub returns-then-is_set : goal.returns-then-is_set
returns-then-is_set c =
    funds_some c.args.m.now c.args.i _ _ _ _ c.is_set.ensures c.if-is_set.true c.get-cash.ensures c.get-position.ensures c.funds_of.ensures

pub returns-else-is_set : goal.returns-else-is_set
returns-else-is_set c =
    funds_none c.args.m.now c.args.i _ c.is_set.ensures c.if-is_set.false
