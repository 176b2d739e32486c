use Rattle.exchange.proofs.Laws.{laws}
use Rattle.exchange.proofs.protocol_error.Goals as goal

pub returns : goal.returns
returns c = search laws
