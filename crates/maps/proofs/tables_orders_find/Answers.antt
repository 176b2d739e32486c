use Rattle.maps.proofs.Entering.{told, entering}
use Rattle.maps.proofs.tables_orders_find.Goals as goal

pub leaves_of-requires : goal.leaves_of-requires
leaves_of-requires c = search entering

pub returns-then-is_whole : goal.returns-then-is_whole
returns-then-is_whole c =
    told c.args.m.now _ _ c.is_whole.ensures c.if-is_whole.true c.leaves_of.ensures

pub returns : goal.returns
returns c = search entering
