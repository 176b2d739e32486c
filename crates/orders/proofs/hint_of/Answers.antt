use Rattle.orders.proofs.Laws.{laws}
use Rattle.orders.proofs.hint_of.Goals as goal

pub returns : goal.returns
returns c = search laws
