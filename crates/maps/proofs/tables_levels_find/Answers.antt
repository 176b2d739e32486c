use Rattle.maps.proofs.Entering.{told, entering}
use Rattle.maps.proofs.tables_levels_find.Goals as goal

pub shown-requires : goal.shown-requires
shown-requires c = search entering

pub returns-then-is_whole : goal.returns-then-is_whole
returns-then-is_whole c =
    rw (← c.side_of.ensures) (told c.args.m.now _ _ c.is_whole.ensures c.if-is_whole.true c.shown.ensures)

pub returns : goal.returns
returns c = search entering
