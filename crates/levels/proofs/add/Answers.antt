use Rattle.levels.proofs.Laws.{join_in, place_is, add_join_is, add_new_is}
use Rattle.levels.proofs.add.Goals as goal

pub join-requires : goal.join-requires
join-requires c =
    let h = rw c.if-is_at.true at c.is_at.ensures in
    (c.requires.0, h.0, h.2, join_in _ c.requires.0 _ _ _ _ c.requires.1 h)

pub returns-then-is_at : goal.returns-then-is_at
returns-then-is_at c =
    add_join_is _ c.requires.0 _ _ _ (rw c.if-is_at.true at c.is_at.ensures).1 c.join.ensures

pub put_in-requires : goal.put_in-requires
put_in-requires c =
    place_is _ c.requires.0 _ _ _ c.requires.1 c.seek_near-i.ensures (rw c.if-is_at.false at c.is_at.ensures)

pub returns : goal.returns
returns c =
    add_new_is _ c.requires.0 _ _ (rw c.if-is_at.false at c.is_at.ensures) c.put_in.ensures
