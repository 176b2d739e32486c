use Rattle.pretrade.proofs.Existing.{slot}
use Rattle.orderentry.proofs.Messages.{exists, other_passes, other_refused, other_done}
use Rattle.orderentry.proofs.enter_other.Goals as goal

pub take_token-t-requires : goal.take_token-t-requires
take_token-t-requires c = exists c.requires.0

pub refuse-requires : goal.refuse-requires
refuse-requires c = let p = c.requires.0 in (p.between.state, p.slot, slot (exists p))

pub push-requires : goal.push-requires
push-requires c = let p = c.requires.0 in
    let can = other_passes c.args.m.now c.args.out.now c.args.s c.args.a c.args.allowed c.args.k c.args.time _ _ c.take_token-t.ensures c.judge_other-v.ensures c.in-None.is in
    (p.between.state, p.slot, slot (exists p), can, c.requires.1)

pub returns-in-Some : goal.returns-in-Some
returns-in-Some c = other_refused c.args.m.now c.args.out.now c.args.s c.args.a c.args.allowed c.args.k c.args.time _ _ c.take_token-t.ensures c.judge_other-v.ensures c.refuse.new.m c.refuse.new.out c.in-Some.why c.refuse.result c.in-Some.is c.refuse.ensures

pub returns-in-None : goal.returns-in-None
returns-in-None c = other_done c.args.m.now c.args.out.now c.args.s c.args.a c.args.allowed c.args.k c.args.time _ _ c.take_token-t.ensures c.judge_other-v.ensures c.in-None.is c.push.ensures
