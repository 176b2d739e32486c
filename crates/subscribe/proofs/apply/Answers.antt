use native.Mathlib.Omega.{arith}
use Rattle.subscribe.proofs.Calls.{mail_long, snapshot_room, all_told}
use Rattle.subscribe.proofs.apply.Goals as goal

pub send_all-n-requires : goal.send_all-n-requires
send_all-n-requires c = (c.requires.0, omega (arith, mail_long c.args.m.now c.args.s, c.requires.2))

pub send_snapshot-requires : goal.send_snapshot-requires
send_snapshot-requires c =
    let t = c.send_all-n.ensures in
    (t.1.becomes.state, c.requires.1, snapshot_room c.args.m.now c.args.s c.args.out.now _ t.0 t.1 c.requires.2)

pub returns : goal.returns
returns c =
    let t = c.send_all-n.ensures in
    all_told c.args.m.now c.args.s c.args.out.now _ t.0 t.1 c.send_snapshot.ensures c.set_subscribed.ensures
