use Rattle.listing.proofs.Laws.{laws}
use Rattle.listing.proofs.shows.Goals as goal

pub returns-then-is_at : goal.returns-then-is_at
returns-then-is_at c = search laws

pub returns-else-is_at : goal.returns-else-is_at
returns-else-is_at c = search laws
