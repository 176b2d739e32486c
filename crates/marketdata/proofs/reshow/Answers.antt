use Rattle.marketdata.proofs.Laws.{levels_show_asks, laws}
use Rattle.marketdata.proofs.reshow.Goals as goal

pub show-requires : goal.show-requires
show-requires c =
    levels_show_asks c.requires.0 _ _ c.requires.1 _ _ c.side_of.ensures c.raised.ensures _ _ c.requires.2

pub returns : goal.returns
returns c = search laws
