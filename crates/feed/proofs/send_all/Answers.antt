use native.Mathlib.Omega.{arith}
use Rattle.feed.proofs.Calls.{mail_long, market_room, all_many, all_told}
use Rattle.feed.proofs.send_all.Goals as goal

pub send_balances-n-requires : goal.send_balances-n-requires
send_balances-n-requires c = (c.requires.0, omega (arith, mail_long c.args.m.now, c.requires.1))

pub send_market-k-requires : goal.send_market-k-requires
send_market-k-requires c =
    let v = c.send_balances-n.ensures in
    (v.sends.becomes.state, market_room c.args.m.now c.args.out.now _ v c.requires.1)

pub returns : goal.returns
returns c =
    let v = c.send_balances-n.ensures in
    let w = c.send_market-k.ensures in
    (all_many c.args.m.now c.args.out.now _ v _ w, all_told c.args.m.now c.args.out.now _ v _ w c.settle.ensures)
