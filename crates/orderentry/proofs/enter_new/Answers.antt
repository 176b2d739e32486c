use Rattle.orderentry.proofs.Placing.{enter_needs, enter_becomes}
use Rattle.orderentry.proofs.enter_new.Goals as goal

pub place_new-requires : goal.place_new-requires
place_new-requires c = let p = c.requires in
    enter_needs c.args.m.now c.args.s c.args.a c.args.bucket c.args.order c.args.time c.begin.ensures c.args.o p.1 p.2 p.3 p.4

pub returns : goal.returns
returns c = enter_becomes c.args.m.now c.args.s c.args.a c.args.bucket c.args.order c.args.time c.begin.ensures c.place_new.ensures
