use Rattle.totals.proofs.Laws.{laws}
use Rattle.totals.proofs.count.Goals as goal

pub orders-requires : goal.orders-requires
orders-requires c = search laws

pub returns-in-Listing : goal.returns-in-Listing
returns-in-Listing c = search laws

pub returns-in-Saved : goal.returns-in-Saved
returns-in-Saved c = search laws
