use native.Mathlib.Nat.{le_refl}
use native.Mathlib.Omega.{arith}
use Rattle.gateway.specs.Limits.{owner_slots}
use Rattle.store.specs.Layout.{cell}
use Rattle.checkpoint.specs.Put.{saved_in, slot_bytes, wallets_bytes}
use Rattle.checkpoint.proofs.Walks.{walk_first, walk_next, walk_room, walk_all, wallets_all}
use Rattle.checkpoint.proofs.put_wallets.Goals as goal

pub loop-a-init : goal.loop-a-init
loop-a-init c =
    walk_first (slot_bytes (cell c.args.m.now)) c.args.o c.args.out.now

pub put_slot-n-requires : goal.put_slot-n-requires
put_slot-n-requires c =
    let m = c.args.m.now in
    (c.requires.0.holds, c.loop-a-test.true, rw c.loop-a.auto.out (walk_room (slot_bytes (cell m)) c.args.o c.args.out.now c.loop-a.a c.loop-a.invariant owner_slots _ (wallets_bytes (saved_in m)) c.loop-a-test.true (wallets_all m owner_slots (le_refl _) (le_refl _)) c.requires.1))

pub loop-a-preserved : goal.loop-a-preserved
loop-a-preserved c =
    walk_next (slot_bytes (cell c.args.m.now)) c.args.o c.args.out.now c.loop-a.a c.loop-a.invariant c.put_slot-n.ensures

pub returns : goal.returns
returns c =
    let m = c.args.m.now in
    walk_all (slot_bytes (cell m)) c.args.o c.args.out.now c.loop-a.a c.loop-a.invariant (wallets_bytes (saved_in m)) (wallets_all m c.loop-a.a (omega arith) c.loop-a-test.false)
