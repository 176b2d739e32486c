use Rattle.exchange.proofs.Laws.{laws}
use Rattle.exchange.proofs.beat.Goals as goal

pub returns : goal.returns
returns c = search laws
