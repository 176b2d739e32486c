use Rattle.subscribe.proofs.Calls.{subscribe_short, exact_heard, mail_room, subscribe_done}
use Rattle.subscribe.proofs.subscribe.Goals as goal

pub returns-then-room-n : goal.returns-then-room-n
returns-then-room-n c =
    subscribe_short c.args.m.now c.args.out.now c.args.s c.args.a c.args.time _ _ c.requires c.count-n.ensures c.room.ensures c.if-room-n.true

pub apply-requires : goal.apply-requires
apply-requires c =
    let n = c.count-n.ensures in
    let p = c.room.ensures in
    let d = c.hear.ensures in (
      exact_heard c.args.m.now c.args.out.now c.args.s c.args.a c.args.time _ _ c.requires n p d,
      c.requires.slot,
      mail_room c.args.m.now c.args.out.now c.args.s c.args.a c.args.time _ _ c.requires n p d c.if-room-n.false,
    )

pub returns : goal.returns
returns c =
    let n = c.count-n.ensures in
    let p = c.room.ensures in
    subscribe_done c.args.m.now c.args.out.now c.args.s c.args.a c.args.time _ _ c.requires n p c.hear.ensures c.if-room-n.false c.apply.ensures
