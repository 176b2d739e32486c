use Rattle.orderentry.proofs.Messages.{messages, push_needs}
use Rattle.orderentry.proofs.push.Goals as goal

pub push-requires : goal.push-requires
push-requires c = push_needs c.args.m.now c.args.s c.args.a c.args.bucket c.args.k c.args.time c.requires.3 c.requires.4 c.begin.ensures

pub returns : goal.returns
returns c = search messages
