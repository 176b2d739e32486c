use Rattle.orders.proofs.Laws.{laws}
use Rattle.orders.proofs.set_four.Goals as goal

pub returns : goal.returns
returns c = search laws
