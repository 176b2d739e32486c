use Rattle.orderentry.proofs.Placing.{new_passes, new_refused, new_done}
use Rattle.pretrade.proofs.Existing.{slot}
use Rattle.orderentry.proofs.Messages.{exists}
use Rattle.orderentry.proofs.new_order.Goals as goal

pub take_token-t-requires : goal.take_token-t-requires
take_token-t-requires c = exists c.requires

pub judge_new-v-requires : goal.judge_new-v-requires
judge_new-v-requires c = (exists c.requires, c.live_of-o.ensures)

pub refuse-requires : goal.refuse-requires
refuse-requires c = let p = c.requires in (p.between.state, p.slot, slot (exists p))

pub enter_new-requires : goal.enter_new-requires
enter_new-requires c = let p = c.requires in
    let room = new_passes c.args.m.now c.args.out.now c.args.s c.args.a c.args.order c.args.time _ _ c.take_token-t.ensures c.judge_new-v.ensures c.in-None.is in
    (p.between.state, p.slot, slot (exists p), room, c.live_of-o.ensures)

pub returns-in-Some : goal.returns-in-Some
returns-in-Some c = new_refused c.args.m.now c.args.out.now c.args.s c.args.a c.args.order c.args.time _ _ c.take_token-t.ensures c.judge_new-v.ensures _ c.live_of-o.ensures c.requires _ _ _ _ c.in-Some.is c.refuse.ensures

pub returns-in-None : goal.returns-in-None
returns-in-None c = new_done c.args.m.now c.args.out.now c.args.s c.args.a c.args.order c.args.time _ _ c.take_token-t.ensures c.judge_new-v.ensures _ c.live_of-o.ensures c.requires c.in-None.is c.enter_new.ensures
