use Rattle.listing.proofs.Laws.{laws}
use Rattle.listing.proofs.opens.Goals as goal

pub returns-then-orders_from-eq0 : goal.returns-then-orders_from-eq0
returns-then-orders_from-eq0 c = search laws

pub returns-else-orders_from-eq0 : goal.returns-else-orders_from-eq0
returns-else-orders_from-eq0 c = search laws

pub returns-else-is_at : goal.returns-else-is_at
returns-else-is_at c = search laws
