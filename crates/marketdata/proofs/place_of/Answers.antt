use Rattle.marketdata.proofs.AtLevel.{level_laws}
use Rattle.marketdata.proofs.place_of.Goals as goal

pub seek-requires : goal.seek-requires
seek-requires c = search level_laws

pub returns : goal.returns
returns c = search level_laws
