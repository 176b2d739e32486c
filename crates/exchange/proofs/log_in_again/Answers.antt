use Rattle.exchange.proofs.Laws.{laws}
use Rattle.exchange.proofs.log_in_again.Goals as goal

pub returns : goal.returns
returns c = search laws
