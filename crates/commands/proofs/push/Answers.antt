use Rattle.commands.proofs.Numbering.{can_fly, push_room, push_becomes}
use Rattle.commands.proofs.push.Goals as goal

pub take_off-requires : goal.take_off-requires
take_off-requires c = (c.requires.0, can_fly c.args.m.now c.requires.1)

pub queue-requires : goal.queue-requires
queue-requires c = let b = c.take_off.ensures.0 in
    (b.state, push_room c.args.m.now c.args.sender c.args.owner 0 c.requires.1 b, c.requires.2.batched)

pub returns : goal.returns
returns c = push_becomes c.args.m.now c.args.sender c.args.owner c.args.command c.requires.2 c.take_off.ensures c.queue.ensures
