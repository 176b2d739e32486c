use Rattle.orders.proofs.Laws.{laws}
use Rattle.orders.proofs.set_two.Goals as goal

pub overflow_add-k : goal.overflow_add-k
overflow_add-k c = search laws

pub returns : goal.returns
returns c = search laws
