use Rattle.marketdata.proofs.Laws.{laws}
use Rattle.marketdata.proofs.remember.Goals as goal

pub returns : goal.returns
returns c = search laws
