use Rattle.live.proofs.Laws.{place_is}
use Rattle.live.proofs.Changes.{place_room, open_small}
use native.Mathlib.Omega.{arith}
use Rattle.live.proofs.put.Goals as goal

pub append-requires : goal.append-requires
append-requires c =
    let p = c.requires in
    place_room p.0 _ _ p.1 c.make_room.ensures

pub overflow_add-open : goal.overflow_add-open
overflow_add-open c =
    let p = c.requires in
    let s = open_small p.0 _ p.1.owner_is in
    omega (arith, s, c.get-open.ensures)

pub returns : goal.returns
returns c =
    let p = c.requires in
    place_is _ _ _ _ _ _ _ p.1.owner_is c.fee_of.ensures c.hold_of-hold.ensures c.get-open.ensures c.side_of.ensures (place_room p.0 _ _ p.1 c.make_room.ensures).1 c.make_room.ensures c.append.ensures c.set.ensures c.shift.ensures
