use Rattle.marketdata.proofs.Laws.{levels_remove_asks, take_off_asks, laws}
use Rattle.marketdata.proofs.strike.Goals as goal

pub remove-requires : goal.remove-requires
remove-requires c = levels_remove_asks c.requires.0 _ _ c.requires.1 _ _ c.side_of.ensures c.raised.ensures

pub take_off-requires : goal.take_off-requires
take_off-requires c =
    take_off_asks c.requires.0 _ _ c.requires.1 _ _ c.side_of.ensures c.raised.ensures c.remove.ensures

pub returns : goal.returns
returns c = search laws
