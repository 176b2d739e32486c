use Rattle.exchange.proofs.Laws.{whose}
use Rattle.exchange.proofs.heed.Goals as goal

pub greet-requires : goal.greet-requires
greet-requires c = whose c.args.m.now c.args.s c.requires.0 c.requires.1 _ _ c.account_of.ensures c.in-None.is

pub hear-requires : goal.hear-requires
hear-requires c = whose c.args.m.now c.args.s c.requires.0 c.requires.1 _ _ c.account_of.ensures c.in-Some.is
