use mathlib.Core.Path.{◌≡◌, ◌∙◌}
use native.Mathlib.Omega.{arith}
use Rattle.store.specs.Layout.{cell}
use Rattle.checkpoint.specs.Put.{saved_in, live_bytes, orders_bytes}
use Rattle.checkpoint.proofs.Walks.{walk_first, walk_next, walk_room, walk_all, orders_all}
use Rattle.checkpoint.proofs.put_orders.Goals as goal

pub loop-j-init : goal.loop-j-init
loop-j-init c =
    walk_first (live_bytes (cell c.args.m.now)) c.args.o c.args.out.now

pub put_live-n-requires : goal.put_live-n-requires
put_live-n-requires c =
    let m = c.args.m.now in
    let h = c.loop-j-test.true in
    let e = c.word_at-size.ensures in
    (c.requires.0, omega arith, rw c.loop-j.auto.out (walk_room (live_bytes (cell m)) c.args.o c.args.out.now c.loop-j.j c.loop-j.invariant _ _ (orders_bytes (saved_in m)) h (orders_all m _ e) c.requires.1))

pub loop-j-preserved : goal.loop-j-preserved
loop-j-preserved c =
    walk_next (live_bytes (cell c.args.m.now)) c.args.o c.args.out.now c.loop-j.j c.loop-j.invariant c.put_live-n.ensures

pub returns : goal.returns
returns c =
    let m = c.args.m.now in
    let j : c.loop-j.j ≡ c.word_at-size.result = omega arith in
    walk_all (live_bytes (cell m)) c.args.o c.args.out.now c.loop-j.j c.loop-j.invariant (orders_bytes (saved_in m)) (orders_all m c.loop-j.j (j ∙ c.word_at-size.ensures))
