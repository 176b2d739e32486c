use Rattle.maps.proofs.Entering.{entered, entering}
use Rattle.maps.proofs.tables_levels_remove.Goals as goal

pub leave-requires : goal.leave-requires
leave-requires c = search entering

pub returns-then-is_whole : goal.returns-then-is_whole
returns-then-is_whole c =
    rw (← c.side_of.ensures) (entered c.args.m.now _ _ c.is_whole.ensures c.if-is_whole.true c.leave.ensures)

pub returns : goal.returns
returns c = search entering
