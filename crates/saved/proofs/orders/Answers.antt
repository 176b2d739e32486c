use Rattle.saved.proofs.Laws.{laws}
use Rattle.saved.proofs.orders.Goals as goal

pub order_count-requires : goal.order_count-requires
order_count-requires c = search laws

pub returns : goal.returns
returns c = search laws
