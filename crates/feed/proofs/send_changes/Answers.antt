use Rattle.feed.proofs.Changes.{room_trades, room_levels, both_told}
use Rattle.feed.proofs.send_changes.Goals as goal

pub send_trades-n-requires : goal.send_trades-n-requires
send_trades-n-requires c = (c.requires.0, c.requires.1, room_trades c.args.m.now c.args.s c.args.i _ c.requires.2)

pub send_levels-requires : goal.send_levels-requires
send_levels-requires c =
    let v = c.send_trades-n.ensures in
    (v.sends.becomes.state, c.requires.1, room_levels c.args.m.now c.args.s c.args.out.now c.args.i _ v c.requires.2)

pub returns : goal.returns
returns c =
    both_told c.args.m.now c.args.s c.args.out.now c.args.i _ c.send_trades-n.ensures c.send_levels.ensures
