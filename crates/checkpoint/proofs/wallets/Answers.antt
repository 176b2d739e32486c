use native.Mathlib.Omega.{arith}
use Rattle.store.specs.Layout.{cell}
use Rattle.checkpoint.specs.Put.{slot_bytes}
use Rattle.checkpoint.proofs.Walks.{count_first, count_next, wallets_counted}
use Rattle.checkpoint.proofs.wallets.Goals as goal

pub loop-a-init : goal.loop-a-init
loop-a-init c =
    (count_first (slot_bytes (cell c.args.m.now)), omega arith)

pub loop-a-preserved : goal.loop-a-preserved
loop-a-preserved c =
    (count_next (slot_bytes (cell c.args.m.now)) c.loop-a.a c.loop-a.n c.wallets_at-n.result c.loop-a.invariant.0 c.wallets_at-n.ensures.0, omega (arith, c.wallets_at-n.ensures.1))

pub returns : goal.returns
returns c =
    (wallets_counted c.args.m.now c.loop-a.a c.loop-a.n (omega arith) c.loop-a-test.false c.loop-a.invariant.0, omega arith)
