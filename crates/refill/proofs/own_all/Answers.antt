use native.Mathlib.Omega.{arith}
use Rattle.refill.proofs.Wallets.{more_owned, all_there}
use Rattle.refill.proofs.own_all.Goals as goal

pub loop-j-preserved : goal.loop-j-preserved
loop-j-preserved c =
    more_owned c.args.bytes.now c.args.m.now c.loop-j.m _ c.loop-j.j (omega (arith, c.loop-j-test.true, c.wallets-n.ensures.0)) c.loop-j.invariant c.own_at.ensures

pub returns : goal.returns
returns c =
    all_there c.args.bytes.now c.args.m.now c.loop-j.m c.loop-j.j (omega (arith, c.loop-j-test.false, c.wallets-n.ensures.0)) c.loop-j.invariant
