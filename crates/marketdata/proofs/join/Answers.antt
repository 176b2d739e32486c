use Rattle.marketdata.proofs.Laws.{levels_add_asks, rest_asks, join_done}
use Rattle.marketdata.proofs.join.Goals as goal

pub add-requires : goal.add-requires
add-requires c =
    levels_add_asks c.requires.0 _ _ c.args.o c.requires.1 c.requires.2 _ _ c.side_of.ensures c.raised.ensures

pub rest-requires : goal.rest-requires
rest-requires c =
    rest_asks c.requires.0 _ _ c.args.o c.requires.1 c.requires.2 _ _ c.side_of.ensures c.raised.ensures c.add.ensures

pub returns : goal.returns
returns c =
    join_done c.requires.0 _ _ c.args.o c.requires.1 c.requires.2 _ _ c.side_of.ensures c.raised.ensures c.add.ensures _ c.rest.ensures
