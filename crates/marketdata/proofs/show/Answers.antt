use Rattle.marketdata.proofs.Laws.{shown_asks, laws}
use Rattle.marketdata.proofs.show.Goals as goal

pub remember-requires : goal.remember-requires
remember-requires c =
    shown_asks c.requires.0 _ _ c.requires.1 _ _ c.requires.2.room c.reshow.ensures

pub returns : goal.returns
returns c = search laws
