use Rattle.marketdata.proofs.Laws.{laws}
use Rattle.marketdata.proofs.replenished.Goals as goal

pub show-requires : goal.show-requires
show-requires c = search laws

pub returns : goal.returns
returns c = search laws
