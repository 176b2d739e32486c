use Prim.Native.Nat.{◌≤◌, ◌<◌}
use native.Mathlib.Omega.{arith}
use lib.ListN.{length}
use Rattle.gateway.specs.Limits.{most_orders}
use Rattle.saved.specs.Contents.{saved_of}
use Rattle.refill.proofs.Noticing.{none_noticed, notice_room, more_noticed, all_noticed}
use Rattle.refill.proofs.notice_all.Goals as goal

pub loop-j-init : goal.loop-j-init
loop-j-init c =
    none_noticed c.args.bytes.now c.args.m.now c.requires.0

pub notice_at-requires : goal.notice_at-requires
notice_at-requires c =
    let h : c.loop-j.j < length (saved_of c.args.bytes.now).orders = omega (arith, c.loop-j-test.true, c.orders-n.ensures.0) in
    let few : length (saved_of c.args.bytes.now).orders ≤ most_orders = omega (arith, c.orders-n.ensures.0, c.orders-n.ensures.1) in
    (c.loop-j.invariant.state, c.requires.1, c.requires.2, h, notice_room c.args.bytes.now c.args.m.now c.loop-j.j c.loop-j.m c.loop-j.invariant h few c.requires.3)

pub loop-j-preserved : goal.loop-j-preserved
loop-j-preserved c =
    let h : c.loop-j.j < length (saved_of c.args.bytes.now).orders = omega (arith, c.loop-j-test.true, c.orders-n.ensures.0) in more_noticed c.args.bytes.now c.args.m.now c.loop-j.j c.loop-j.m c.loop-j.invariant h _ c.notice_at.ensures

pub returns : goal.returns
returns c =
    all_noticed c.args.bytes.now c.args.m.now c.loop-j.j c.loop-j.m (omega (arith, c.loop-j-test.false, c.orders-n.ensures.0)) c.loop-j.invariant
