use Rattle.orders.proofs.Laws.{laws}
use Rattle.orders.proofs.hint.Goals as goal

pub returns : goal.returns
returns c = search laws
