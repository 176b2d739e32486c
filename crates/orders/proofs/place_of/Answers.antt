use Rattle.orders.proofs.Laws.{laws}
use Rattle.orders.proofs.place_of.Goals as goal

pub lower_bound-requires : goal.lower_bound-requires
lower_bound-requires c = search laws

pub returns : goal.returns
returns c = search laws
