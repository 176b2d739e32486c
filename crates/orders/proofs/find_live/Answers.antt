use Rattle.orders.proofs.Laws.{laws}
use Rattle.orders.proofs.find_live.Goals as goal

pub find-requires : goal.find-requires
find-requires c = search laws

pub returns : goal.returns
returns c = search laws
