use Rattle.ticks.proofs.Ticked.{calls, tick_room}
use Rattle.ticks.proofs.tick.Goals as goal

pub returns-then-room-n : goal.returns-then-room-n
returns-then-room-n c = search calls

pub apply-requires : goal.apply-requires
apply-requires c =
    let b = c.set_clock.ensures in
    (b.state, tick_room c.args.m.now c.args.out.now c.args.time _ _ c.requires c.count-n.ensures c.room.ensures c.if-room-n.false b)

pub returns : goal.returns
returns c = search calls
