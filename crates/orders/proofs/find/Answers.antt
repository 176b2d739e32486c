use Rattle.orders.proofs.Laws.{laws}
use Rattle.orders.proofs.find.Goals as goal

pub find_hinted-requires : goal.find_hinted-requires
find_hinted-requires c = search laws

pub returns : goal.returns
returns c = search laws
