use Rattle.marketdata.proofs.Laws.{off_asks, laws}
use Rattle.marketdata.proofs.remove.Goals as goal

pub remember-requires : goal.remember-requires
remember-requires c =
    off_asks c.requires.0 _ _ c.requires.1 c.requires.2 c.strike.ensures

pub returns : goal.returns
returns c = search laws
