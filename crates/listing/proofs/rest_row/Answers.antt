use Rattle.listing.proofs.Laws.{laws}
use Rattle.listing.proofs.rest_row.Goals as goal

pub rest-requires : goal.rest-requires
rest-requires c = search laws

pub returns-then-e-eq0 : goal.returns-then-e-eq0
returns-then-e-eq0 c = search laws

pub returns-else-e-eq0 : goal.returns-else-e-eq0
returns-else-e-eq0 c = search laws
