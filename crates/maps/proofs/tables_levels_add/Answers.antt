use Rattle.maps.proofs.Entering.{entered, entering}
use Rattle.maps.proofs.tables_levels_add.Goals as goal

pub join-requires : goal.join-requires
join-requires c = search entering

pub returns-then-is_whole : goal.returns-then-is_whole
returns-then-is_whole c =
    rw (← c.side_of.ensures) (entered c.args.m.now _ _ c.is_whole.ensures c.if-is_whole.true c.join.ensures)

pub returns : goal.returns
returns c = search entering
