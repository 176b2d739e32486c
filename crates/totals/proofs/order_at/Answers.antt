use Rattle.totals.proofs.Laws.{laws}
use Rattle.totals.proofs.order_at.Goals as goal

pub listed-requires : goal.listed-requires
listed-requires c = search laws

pub order-requires : goal.order-requires
order-requires c = search laws

pub returns-in-Listing : goal.returns-in-Listing
returns-in-Listing c = search laws

pub returns-in-Saved : goal.returns-in-Saved
returns-in-Saved c = search laws
