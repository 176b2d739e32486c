use Rattle.subscribe.proofs.Snapshot.{first_room, bids_room, asks_room, snapshot_sends}
use Rattle.subscribe.proofs.send_snapshot.Goals as goal

pub send_first-n-requires : goal.send_first-n-requires
send_first-n-requires c =
    (c.requires.0, c.requires.1, first_room c.args.m.now c.args.s c.args.out.now c.args.i c.requires.2)

pub post_side-k-requires : goal.post_side-k-requires
post_side-k-requires c =
    let t = c.send_first-n.ensures in
    (t.sends.becomes.state, bids_room c.args.m.now c.args.s c.args.out.now c.args.i _ t c.requires.2)

pub post_side-requires : goal.post_side-requires
post_side-requires c =
    let t = c.send_first-n.ensures in
    (t.sends.becomes.state, asks_room c.args.m.now c.args.s c.args.out.now c.args.i _ t _ c.post_side-k.ensures c.requires.2)

pub returns : goal.returns
returns c =
    snapshot_sends c.args.m.now c.args.s c.args.out.now c.args.i _ c.send_first-n.ensures _ c.post_side-k.ensures _ c.post_side.ensures
