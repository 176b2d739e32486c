use Rattle.subscribe.proofs.Calls.{count_is}
use Rattle.subscribe.proofs.count.Goals as goal

pub returns : goal.returns
returns c = count_is c.args.m.now c.args.s _ _ c.count.ensures.0 c.levels_of.ensures.0
